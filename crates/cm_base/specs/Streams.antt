-- What a sink got and what a source gave.
use Rattle.std.specs.Prelude.{◌≡◌, ℕ, ◌<◌, ◌≤◌, List, [], ◌++◌, length, take, drop, Option, None, option_map}
use Rattle.std.specs.Option.{ForSome}

-- where it tells what it got, it got this text more, and nothing else
abbrev pub Gets : Option (List ℕ) → Option (List ℕ) → List ℕ → Type 0
Gets old new text = new ≡ option_map (λ got. got ++ text) old

-- it got a front of this text more, and nothing else
abbrev pub GetsFront : Option (List ℕ) → Option (List ℕ) → List ℕ → Type 0
GetsFront old new text = (n : ℕ) × Gets old new (take n text)

-- it gave so many of the bytes left, from their front, into the buffer; none into a buffer that has room is the end
pub record Gives (old new : Option (List ℕ)) (buffer : List ℕ) (count : ℕ) : Type 0 where
  pub left : new ≡ option_map (drop count) old
  pub bytes : ForSome old (λ bytes. take count buffer ≡ take count bytes)
  pub enough : ForSome old (λ bytes. count ≤ length bytes)
  pub end : count ≡ 0 → 0 < length buffer → ForSome old (λ bytes. bytes ≡ [])

-- what an object holds beside: bytes, where it tells them, and a count of faults
pub record Beside : Type 0 where
  pub bytes : Option (List ℕ)
  pub faults : ℕ

-- nothing is held beside
abbrev pub nothing_beside : Beside
nothing_beside = record { bytes = None; faults = 0 }
