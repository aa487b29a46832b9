-- The head of a log's file: live 1, form 1, generation 8 bytes; and which of two logs is the live one.
use Rattle.std.specs.Prelude.{ℕ, Bool, ◌==◌, ◌&&◌, ◌||◌, not, nat_lt, if◌then◌else◌, List, length, drop, slice_index}
use Rattle.std.specs.Int.{from_le_bytes, w64}
use Rattle.cm_log.specs.declared.shelf.Side.{Side}
use Rattle.cm_log.specs.declared.shelf.Side.TheVariants.{First, Second}
use Rattle.cm_log.specs.declared.head.Head.{Head}
use Rattle.cm_log.specs.declared.head.Choice.{Choice}
use Rattle.cm_log.specs.declared.head.Choice.TheVariants.{Chosen, Refused}

-- the head that a file begins with; a byte that is not there counts as 0
abbrev pub head_of : List ℕ → Head
head_of bytes = record { count = length bytes; live = slice_index bytes 0; form = slice_index bytes 1; generation = from_le_bytes w64 (drop 2 bytes) }

-- it is live, and the other one is not, or is of an earlier generation
abbrev pub is_ahead : Head → Head → Bool
is_ahead one other = one.live == 1 && (not (other.live == 1) || nat_lt other.generation one.generation)

-- a live log whose form is unknown, or whose head is cut short, is refused
abbrev pub if_readable : Side → Head → Choice
if_readable side head = if not (head.form == 1) then Refused side 1 else (if nat_lt head.count 10 then Refused side head.count else Chosen side)

-- the live log; or the one that is refused, with the place of its first bad byte
abbrev pub choice : Head → Head → Choice
choice first second =
    if first.count == 0 then Refused First 0
    else (if second.count == 0 then Refused Second 0
    else (if is_ahead first second then if_readable First first
    else (if is_ahead second first then if_readable Second second
    else Refused First 0)))
