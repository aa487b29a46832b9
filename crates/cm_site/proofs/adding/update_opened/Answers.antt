use Rattle.std.proofs.Common.{◌≡◌, ◌≢◌, ℕ, ◌+◌, Bool, true, false, if◌then◌else◌, eq-eqb, refl, sym, ◌∙◌, ap, subst}
use Rattle.std.specs.Prelude.{◌==◌, Option}
use Rattle.std.proofs.lemmas.Bool.{false≢true, eqb-true}
use Rattle.cm_pkglib.specs.Rows.{last_of}
use Rattle.cm_site.specs.OneLibrary.{update_behind, taken_in, told, update}
use Rattle.cm_site.specs.Contents.{site}
use Rattle.cm_site.specs.OneEnds.{OneEndsOn}
use Rattle.cm_site.specs.Runs.{sourced}
use Rattle.cm_site.specs.declared.reply.Reply.{Reply}
use Rattle.cm_site.specs.declared.reply.Reply.TheVariants.{Refused}
use Rattle.cm_site.specs.declared.reply.Refusal.TheVariants.{NoPackage, VersionsSpent}
use Rattle.cm_site.proofs.OpenedEnds.{ends_stay}
use Rattle.cm_site.proofs.adding.update_opened.Goals as goal

not_spent : (n : ℕ) → n ≢ 4294967295 → (n == 4294967295) ≡ false
not_spent n other = by (n == 4294967295) refl
  where
    by : (b : Bool) → (n == 4294967295) ≡ b → (n == 4294967295) ≡ false
    by true is = absurd (other (eqb-true n 4294967295 is))
    by false is = is

is_spent : (n : ℕ) → (n ≢ 4294967295 → ⊥) → (n == 4294967295) ≡ true
is_spent n never = by (n == 4294967295) refl
  where
    by : (b : Bool) → (n == 4294967295) ≡ b → (n == 4294967295) ≡ true
    by true is = is
    by false is = absurd (never (λ e. false≢true (sym is ∙ eq-eqb n 4294967295 e)))

pub returns-in-None : goal.returns-in-None
returns-in-None g c =
    let d = g.D.Disk in
    let id = c.args.«package» in
    let library = c.args.library.now in
    let told_now = c.tells.ensures in
    let from = sourced g.F.Folder.shows g.F.Folder.faults c.args.folder.now in
    subst (λ (r : Reply). OneEndsOn d.reads d.may_leave d.moment d.left_since d.faults site library.state library.end (update id) from from r library.start library.disk) (sym c.refused.ensures)
    (ends_stay d.reads d.may_leave d.moment d.left_since d.faults site library c.requires.opened (record { files = told_now.files; stands = told_now.stands; opens = told_now.opens }) (λ files left. g.met.D.Disk.only_now library.disk files left) from from
    (λ given s. update_behind id given s (last_of id s.lasts)) (Refused NoPackage)
    (λ given. ap (λ (o : Option ℕ). update_behind id given library.state o) (sym c.last.ensures ∙ c.in-None.is)) tt)

pub returns-in-Some-behind : goal.returns-in-Some-behind
returns-in-Some-behind g c =
    let id = c.args.«package» in
    let state = c.args.library.now.state in
    let next = c.in-Some-behind.ensures in
    c.take.ensures (λ given s. update_behind id given s (last_of id s.lasts))
    (λ given. ap (λ (o : Option ℕ). update_behind id given state o) (sym c.last.ensures ∙ c.in-Some.is)
    ∙ (ap (λ (b : Bool). if b then told (Refused VersionsSpent) else taken_in id (c.in-Some.last + 1) given state) (not_spent c.in-Some.last next.0)
    ∙ ap (λ (v : ℕ). taken_in id v given state) (sym next.1)))

pub returns-in-None-behind : goal.returns-in-None-behind
returns-in-None-behind g c =
    let d = g.D.Disk in
    let id = c.args.«package» in
    let library = c.args.library.now in
    let told_now = c.tells-in-None-behind.ensures in
    let from = sourced g.F.Folder.shows g.F.Folder.faults c.args.folder.now in
    let last = c.in-Some.last in
    subst (λ (r : Reply). OneEndsOn d.reads d.may_leave d.moment d.left_since d.faults site library.state library.end (update id) from from r library.start library.disk) (sym c.refused-in-None-behind.ensures)
    (ends_stay d.reads d.may_leave d.moment d.left_since d.faults site library c.requires.opened (record { files = told_now.files; stands = told_now.stands; opens = told_now.opens }) (λ files left. g.met.D.Disk.only_now library.disk files left) from from
    (λ given s. update_behind id given s (last_of id s.lasts)) (Refused VersionsSpent)
    (λ given. ap (λ (o : Option ℕ). update_behind id given library.state o) (sym c.last.ensures ∙ c.in-Some.is)
    ∙ ap (λ (b : Bool). if b then told (Refused VersionsSpent) else taken_in id (last + 1) given library.state) (is_spent last c.in-None-behind.ensures)) tt)
