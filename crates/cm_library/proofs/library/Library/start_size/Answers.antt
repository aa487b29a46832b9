use Rattle.std.proofs.Common.{◌≡◌, ℕ, true, false, List, refl, sym, ◌∙◌, ap, rules}
use Rattle.std.specs.Prelude.{is_some, Option, None, Some}
use Rattle.std.proofs.lemmas.Bool.{false≢true}
use Rattle.cm_base.specs.declared.hash.Hash.{Hash}
use Rattle.cm_pkglib.specs.declared.counts.Seal.{Seal}
use Rattle.cm_pkglib.specs.declared.counts.Counts.{Counts}
use Rattle.cm_pkglib.specs.Counts.{sealed_of, seals_in, seal_at}
use Rattle.cm_pkglib.proofs.Times.{seals_are}
use Rattle.cm_filelib.specs.declared.writing.Writing.{Writing}
use Rattle.cm_state.specs.declared.fault.LibFault.{LibFault}
use Rattle.cm_state.specs.declared.fault.LibFault.TheVariants.{Stored}
use Rattle.cm_state.specs.State.{State}
use Rattle.cm_contents.specs.Seals.{job_manifest, first_fault}
use Rattle.cm_contents.specs.Wants.{size_in}
use Rattle.cm_library.specs.Kept.{Seen}
use Rattle.cm_library.specs.Started.{holder_of, no_job, unwanted, stored, held, start_fault}
use Rattle.cm_library.proofs.library.Library.start_size.Goals as goal

module _ (seals : Hash → Option Seal) (state : State) (started : List (ℕ × Writing)) (job : ℕ) (hash : Hash) (size : ℕ) (wanted : (no_job job state ≡ None) × (size_in hash (job_manifest job state) ≡ Some size)) where
  -- what is left to ask of a hash that is wanted
  wanted_fault : start_fault seals state started job hash ≡ first_fault (stored hash (seals hash)) (held hash (holder_of job hash started))
  wanted_fault =
      let rest = first_fault (stored hash (seals hash)) (held hash (holder_of job hash started)) in
      ap (λ (o : Option LibFault). first_fault o (first_fault (unwanted hash (size_in hash (job_manifest job state))) rest)) wanted.0 ∙ ap (λ (o : Option ℕ). first_fault (unwanted hash o) rest) wanted.1

  there_fault : is_some (seals hash) ≡ true → start_fault seals state started job hash ≡ Some (Stored hash)
  there_fault some = wanted_fault ∙ by (seals hash) some
    where
      by : (o : Option Seal) → is_some o ≡ true → first_fault (stored hash o) (held hash (holder_of job hash started)) ≡ Some (Stored hash)
      by None is = absurd (false≢true is)
      by (Some seal) is = refl

  held_fault : is_some (seals hash) ≡ false → (holder : Option ℕ) → holder ≡ holder_of job hash started → start_fault seals state started job hash ≡ held hash holder
  held_fault none holder is = wanted_fault ∙ by (seals hash) none ∙ ap (held hash) (sym is)
    where
      by : (o : Option Seal) → is_some o ≡ false → first_fault (stored hash o) (held hash (holder_of job hash started)) ≡ held hash (holder_of job hash started)
      by None is = refl
      by (Some seal) is = absurd (false≢true (sym is))

-- the seal that contracts see
seal_seen : (counts : Counts) (seals : List (Hash × Option Seal)) → seals_in counts ≡ seals → (hash : Hash) → seal_at seals hash ≡ sealed_of counts hash
seal_seen counts seals is hash = ap (λ (l : List (Hash × Option Seal)). seal_at l hash) (sym is) ∙ sym (ap (λ (f : Hash → Option Seal). f hash) (seals_are counts))

pub returns-then-is_some-clause-refused : goal.returns-then-is_some-clause-refused
returns-then-is_some-clause-refused g c =
    let v = c.args.self.now in
    let seal = seal_seen c.self.inside.counts v.seals (ap (λ (seen : Seen g.row.D.Denot). seen.seals) c.self.view_is) c.args.hash in
    let some : is_some (sealed_of c.self.inside.counts c.args.hash) ≡ true = search rules in
    there_fault (seal_at v.seals) v.state v.started c.args.job c.args.hash c.in-Ok.size c.in-Ok.ensures.wanted (ap (λ (o : Option Seal). is_some o) seal ∙ some)

pub returns-in-Some-clause-refused : goal.returns-in-Some-clause-refused
returns-in-Some-clause-refused g c =
    let v = c.args.self.now in
    let seal = seal_seen c.self.inside.counts v.seals (ap (λ (seen : Seen g.row.D.Denot). seen.seals) c.self.view_is) c.args.hash in
    let none : is_some (sealed_of c.self.inside.counts c.args.hash) ≡ false = search rules in
    let started = c.deref.ensures.value ∙ ap (λ (seen : Seen g.row.D.Denot). seen.started) c.self.view_is in
    held_fault (seal_at v.seals) v.state v.started c.args.job c.args.hash c.in-Ok.size c.in-Ok.ensures.wanted (ap (λ (o : Option Seal). is_some o) seal ∙ none)
    (Some c.in-Some.other) (c.in-Some.ensures ∙ ap (λ (l : List (ℕ × Writing)). holder_of c.args.job c.args.hash l) started)

pub returns-in-None-clause-wanted : goal.returns-in-None-clause-wanted
returns-in-None-clause-wanted g c =
    let v = c.args.self.now in
    let seal = seal_seen c.self.inside.counts v.seals (ap (λ (seen : Seen g.row.D.Denot). seen.seals) c.self.view_is) c.args.hash in
    let none : is_some (sealed_of c.self.inside.counts c.args.hash) ≡ false = search rules in
    let started = c.deref.ensures.value ∙ ap (λ (seen : Seen g.row.D.Denot). seen.started) c.self.view_is in (
      held_fault (seal_at v.seals) v.state v.started c.args.job c.args.hash c.in-Ok.size c.in-Ok.ensures.wanted (ap (λ (o : Option Seal). is_some o) seal ∙ none)
          None (c.in-None.ensures ∙ ap (λ (l : List (ℕ × Writing)). holder_of c.args.job c.args.hash l) started),
      c.in-Ok.ensures.wanted.1,
    )
