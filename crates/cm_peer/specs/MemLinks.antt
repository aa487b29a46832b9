-- A link in memory.
use Rattle.std.specs.Prelude.{◌≡◌, ◌⊎◌, ◌∷◌, ◌++◌, ℕ, Bool, true, false, List, [], find, Option, None, Some, option_map, Result, IsSome, OnOk, OnErr}
use Rattle.std.specs.Str.{bytes_eq}
use Rattle.cm_base.specs.InMemory.{raised}
use Rattle.cm_base.specs.Listed.{is_listed}
use Rattle.cm_peer.specs.declared.mem_link.MemLink.{MemLink}
use Rattle.cm_peer.specs.declared.offers.Want.{Want}
use Rattle.cm_peer.specs.declared.offers.Cause.TheVariants.{NotCached}
use Rattle.cm_peer.specs.declared.offers.Answer.{Answer}
use Rattle.cm_peer.specs.declared.offers.Answer.TheVariants.{Refused}
use Rattle.cm_peer.specs.declared.sources.SourceRow.{SourceRow}

-- the answer of the first of these, and of none
abbrev pub answer_or_none : Option (List ℕ × Answer) → Answer
answer_or_none None = Refused NotCached
answer_or_none (Some pair) = pair.1

-- the source has that name
abbrev pub is_named : List ℕ → List ℕ × Answer → Bool
is_named name pair = bytes_eq pair.0 name

-- the answer of the first source of that name
abbrev pub answer_named : List (List ℕ × Answer) → List ℕ → Answer
answer_named answers name = answer_or_none (find (is_named name) answers)

-- the sources by name, each with its answer
abbrev pub answers_of : MemLink → List (List ℕ × Answer)
answers_of link = link.answers.items

-- a source answers what is listed for its name
abbrev pub gives_answer : MemLink → SourceRow → Want → Answer → Type 0
gives_answer link source want answer = answer ≡ answer_named (answers_of link) source.name

-- which sources it was asked for, where it tells
abbrev pub asked_of : MemLink → Option (List SourceRow)
asked_of link = option_map (λ asked. asked.items) link.asked

-- the numbers of the calls that fail
abbrev pub fails_at : MemLink → List ℕ
fails_at link = link.fail.items

-- how many calls there were, which is the number of the next
abbrev pub calls_of : MemLink → ℕ
calls_of link = link.number

-- how many of them failed
abbrev pub faults_of : MemLink → ℕ
faults_of link = link.faults

-- A call takes one number, and counts a fault exactly where it fails. It fails exactly where its number is a listed one, or where
-- there was no memory to note the source. That comes once at most: from then on it notes none, and wants no memory.
pub record FailsExactly {T E : Type 0} (old new : MemLink) (source : SourceRow) (result : Result T E) : Type 0 where
  pub listed : fails_at new ≡ fails_at old
  pub number : calls_of new ≡ raised (calls_of old)
  pub ok : OnOk result ((is_listed (fails_at old) (calls_of old) ≡ false) × (faults_of new ≡ faults_of old))
  pub noted : OnOk result (asked_of new ≡ option_map (λ before. before ++ source ∷ []) (asked_of old))
  pub err : OnErr result ((is_listed (fails_at old) (calls_of old) ≡ true) ⊎ (IsSome (asked_of old) × (asked_of new ≡ None)))
  pub counted : OnErr result (faults_of new ≡ raised (faults_of old))
