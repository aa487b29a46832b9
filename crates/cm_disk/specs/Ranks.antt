-- How many places may stand above one.
use Rattle.std.specs.Prelude.{◌≡◌, ℕ, zero, suc, ◌+◌, ◌-◌, ◌*◌, ◌<◌, ◌≤◌, true, List, [], ◌∷◌, length, Option, None, Some}
use Rattle.hex.specs.Hex.{IsBytes}
use Rattle.cm_disk.specs.Disk.{is_above}

-- 257 for each byte that a text may have
unfoldable pub scale : ℕ → ℕ
scale zero = 1
scale (suc most) = 257 * scale most

-- the number of a text among those of at most so many bytes, in byte order
unfoldable pub rank : ℕ → List ℕ → ℕ
rank zero text = 0
rank (suc most) [] = 0
rank (suc most) (byte ∷ text) = (byte + 1) * scale most + rank most text

-- as many places as may stand above this one, or above none; it falls as a walk goes on
unfoldable pub ahead : Option (List ℕ) → ℕ
ahead None = scale 120 + 1
ahead (Some place) = scale 120 - rank 120 place

-- a text that a place may be
pub record IsText (text : List ℕ) : Type 0 where
  pub bytes : IsBytes text
  pub few : length text ≤ 120

-- it goes up
pub record Rises (at place : List ℕ) : Type 0 where
  pub above : is_above (Some at) place ≡ true
  pub nearer : ahead (Some place) < ahead (Some at)
