use Rattle.std.proofs.Common.{ℕ, sym, ◌∙◌, ap, subst}
use Rattle.std.specs.Prelude.{Option}
use Rattle.cm_pkglib.specs.Rows.{last_of}
use Rattle.cm_site.specs.OneLibrary.{add_behind, taken_in, add}
use Rattle.cm_site.specs.Contents.{site}
use Rattle.cm_site.specs.OneEnds.{OneEndsOn}
use Rattle.cm_site.specs.Runs.{sourced}
use Rattle.cm_site.specs.declared.reply.Reply.{Reply}
use Rattle.cm_site.specs.declared.reply.Reply.TheVariants.{Refused}
use Rattle.cm_site.specs.declared.reply.Refusal.TheVariants.{PackageThere}
use Rattle.cm_site.proofs.OpenedEnds.{ends_stay}
use Rattle.cm_site.proofs.adding.add_opened.Goals as goal

pub returns-in-None : goal.returns-in-None
returns-in-None g c =
    let id = c.args.«package» in
    let state = c.args.library.now.state in
    c.take.ensures (λ given s. add_behind id given s (last_of id s.lasts))
    (λ given. ap (λ (o : Option ℕ). add_behind id given state o) (sym c.last.ensures ∙ c.in-None.is) ∙ ap (λ (v : ℕ). taken_in id v given state) (sym c.first_version.ensures))

pub returns-in-Some : goal.returns-in-Some
returns-in-Some g c =
    let d = g.D.Disk in
    let id = c.args.«package» in
    let library = c.args.library.now in
    let told_now = c.tells.ensures in
    let from = sourced g.F.Folder.shows g.F.Folder.faults c.args.folder.now in
    subst (λ (r : Reply). OneEndsOn d.reads d.may_leave d.moment d.left_since d.faults site library.state library.end (add id) from from r library.start library.disk) (sym c.refused.ensures)
    (ends_stay d.reads d.may_leave d.moment d.left_since d.faults site library c.requires.opened (record { files = told_now.files; stands = told_now.stands; opens = told_now.opens }) (λ files left. g.met.D.Disk.only_now library.disk files left) from from
    (λ given s. add_behind id given s (last_of id s.lasts)) (Refused (PackageThere c.in-Some.last))
    (λ given. ap (λ (o : Option ℕ). add_behind id given library.state o) (sym c.last.ensures ∙ c.in-Some.is)) tt)
