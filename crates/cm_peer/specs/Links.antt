-- What a link says of sources, and what it was asked.
use Rattle.std.specs.Prelude.{◌≡◌, ◌↔◌, ℕ, ◌+◌, ◌-◌, ◌^◌, ◌≤◌, min, List, ◌++◌, Option, Some, option_map}
use Rattle.std.specs.Option.{ForSome}
use Rattle.cm_peer.specs.declared.offers.Want.{Want}
use Rattle.cm_peer.specs.declared.offers.Answer.{Answer}
use Rattle.cm_peer.specs.declared.sources.SourceRow.{SourceRow}

-- two tests of a source, a want and an answer are met by the same ones
abbrev pub IsSameTest : (SourceRow → Want → Answer → Type 0) → (SourceRow → Want → Answer → Type 0) → Type 0
IsSameTest old new = (source : SourceRow) (want : Want) (answer : Answer) → old source want answer ↔ new source want answer

-- where it still tells which sources it was asked, these were asked behind the ones before, and no others
abbrev pub WasAsked : Option (List SourceRow) → Option (List SourceRow) → List SourceRow → Type 0
WasAsked old new sources = ForSome new (λ now. option_map (λ before. before ++ sources) old ≡ Some now)

-- a count of faults has risen by so many at least, or stands at its last value
abbrev pub RoseBy : ℕ → ℕ → ℕ → Type 0
RoseBy many before now = min (before + many) (2 ^ 64 - 1) ≤ now
