-- What a walk over sources gives.
use Rattle.std.specs.Prelude.{◌≡◌, ◌≢◌, ℕ, ◌+◌, Bool, true, false, List, [], ◌∷◌, length, take, slice_get, count_by, Option, Some, None, is_some, MatchOption, if◌then◌else◌}
use Rattle.cm_peer.specs.declared.offers.Want.{Want}
use Rattle.cm_peer.specs.declared.offers.Answer.{Answer}
use Rattle.cm_peer.specs.declared.offers.Answer.TheVariants.{Serve, Refused as RefusedFor}
use Rattle.cm_peer.specs.declared.sources.SourceRow.{SourceRow}
use Rattle.cm_peer.specs.declared.sources.Why.{Why}
use Rattle.cm_peer.specs.declared.sources.Why.TheVariants.{Cause, Link, OtherManifest}
use Rattle.cm_peer.specs.declared.sources.Refused.{Refused}
use Rattle.cm_peer.specs.declared.sources.Walk.{Walk}

-- why a source did not serve what was wanted: its answer, which meets the link's test, or the link
abbrev pub IsWhy : (SourceRow → Want → Answer → Type 0) → Want → SourceRow → Why → Type 0
IsWhy gives want source (Cause cause) = gives source want (RefusedFor cause)
IsWhy gives want source Link = Unit {0}
IsWhy gives want source (OtherManifest got) = (got ≢ want.hash) × gives source want (Serve got)

-- each of these sources, of which the first has this number, did not serve what was wanted
abbrev pub AreRefused : (SourceRow → Want → Answer → Type 0) → Want → ℕ → List SourceRow → List Refused → Type 0
AreRefused gives want number [] [] = Unit {0}
AreRefused gives want number [] (refused ∷ refusals) = ⊥
AreRefused gives want number (source ∷ sources) [] = ⊥
AreRefused gives want number (source ∷ sources) (refused ∷ refusals) =
    (refused.source ≡ number) × IsWhy gives want source refused.why × AreRefused gives want (number + 1) sources refusals

-- the source of this number serves what is wanted
abbrev pub Serves : (SourceRow → Want → Answer → Type 0) → Want → List SourceRow → ℕ → Type 0
Serves gives want sources number = (source : SourceRow) × (slice_get sources number ≡ Some source) × gives source want (Serve want.hash)

-- The first sources did not serve what was wanted, each with its reason in their order. The next one serves it, or there is
-- none.
pub record IsWalk (gives : SourceRow → Want → Answer → Type 0) (want : Want) (sources : List SourceRow) (walk : Walk) : Type 0 where
  pub refused : AreRefused gives want 0 (take (length walk.refusals) sources) walk.refusals
  pub got : MatchOption walk.got (length walk.refusals ≡ length sources) (λ number. (number ≡ length walk.refusals) × Serves gives want sources number)

-- the sources that were asked, all before the one that serves, and that one
abbrev pub asked_in : List SourceRow → Walk → List SourceRow
asked_in sources walk = take (length walk.refusals + (if is_some walk.got then 1 else 0)) sources

-- the link failed
abbrev pub is_link : Why → Bool
is_link (Cause cause) = false
is_link Link = true
is_link (OtherManifest got) = false

-- how often the link failed as one source was asked
abbrev pub link_faults : Option Why → ℕ
link_faults None = 0
link_faults (Some why) = if is_link why then 1 else 0

-- how often the link failed in a walk
abbrev pub link_count : List Refused → ℕ
link_count refusals = count_by (λ refused. is_link refused.why) refusals
