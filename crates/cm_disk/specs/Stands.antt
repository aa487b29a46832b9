-- How a place stands after a record of calls.
use Rattle.std.specs.Prelude.{ℕ, ◌+◌, ◌^◌, ◌==◌, ◌≤◌, option_map, Bool, true, false, if◌then◌else◌, List, [], ◌∷◌, length, take, Option, None, Some}
use Rattle.std.specs.Str.{bytes_eq}
use Rattle.std.proofs.Common.{suc}
use Rattle.cm_disk.specs.declared.calls.Span.{Span}
use Rattle.cm_disk.specs.declared.calls.Work.{Work}
use Rattle.cm_disk.specs.declared.calls.Work.TheVariants.{Write, Cut, Remove, Sync}
use Rattle.cm_disk.specs.declared.calls.Call.{Call}
use Rattle.cm_disk.specs.Images.{Stand, is_touched, IsLeft}
use Rattle.cm_disk.specs.Disk.{File, Files, bytes_of, written, IsImage}

-- a place where nothing ever was
abbrev pub absent : Stand
absent = record { now = None; durable = None; touched = []; removed = false }

-- the range that a write touches: its own, none where that is empty, or everything where it makes the file
abbrev pub span_of_write : Option (List ℕ) → ℕ → ℕ → Option Span
span_of_write None offset count = Some (record { from = 0; to = None })
span_of_write (Some bytes) offset count = if count == 0 then None else Some (record { from = offset; to = Some (offset + count) })

-- one range more, if there is one
abbrev pub with_span : Option Span → List Span → List Span
with_span None spans = spans
with_span (Some span) spans = span ∷ spans

-- a file that is there, after a cut or a removal
abbrev pub cut_stand : ℕ → Bool → Stand → Option (List ℕ) → Stand
cut_stand size done s None = s
cut_stand size done s (Some bytes) = record { now = (if done then Some (take size bytes) else Some bytes); durable = s.durable; touched = record { from = size; to = None } ∷ s.touched; removed = s.removed }

abbrev pub removed_stand : Bool → Stand → Option (List ℕ) → Stand
removed_stand done s None = s
removed_stand done s (Some bytes) = record { now = (if done then None else Some bytes); durable = s.durable; touched = record { from = 0; to = None } ∷ s.touched; removed = true }

-- after a call that was done or failed
abbrev pub worked : Work → Bool → Stand → Stand
worked (Write offset bytes) done s = record { now = (if done then written offset bytes.items s.now else s.now); durable = s.durable; touched = with_span (span_of_write s.now offset (length bytes.items)) s.touched; removed = s.removed }
worked (Cut size) done s = cut_stand size done s s.now
worked Remove done s = removed_stand done s s.now
worked Sync done s = (if done then record { now = s.now; durable = s.now; touched = []; removed = false } else s)

-- after a call that may be of another place
abbrev pub step : Call → List ℕ → Stand → Stand
step call place s = if bytes_eq call.place place then worked call.work call.done s else s

-- after these calls
abbrev pub after : List Call → List ℕ → Stand → Stand
after [] place s = s
after (call ∷ calls) place s = after calls place (step call place s)

-- how a place stands after these calls on an empty disk
abbrev pub stand_after : List Call → List ℕ → Stand
stand_after calls place = after calls place absent

-- what reads give after these calls
abbrev pub files_after : List Call → Files
files_after calls place = (stand_after calls place).now

-- what a stop after these calls may leave
abbrev pub left_after : List Call → List ℕ → File → Type 0
left_after calls place file = IsLeft (stand_after calls place) file

-- what a stop after the first t of these calls, or after more of them, may leave
pub record LeftSince (calls : List Call) (t : ℕ) (files : Files) : Type 0 where
  pub moment : ℕ
  pub since : t ≤ moment
  pub been : moment ≤ length calls
  pub image : IsImage (left_after (take moment calls)) files

-- no more bytes than a file may have
pub record IsSmall (s : Stand) : Type 0 where
  pub now : length (bytes_of s.now) ≤ 2 ^ 40 + 131072
  pub durable : length (bytes_of s.durable) ≤ 2 ^ 40 + 131072

-- each touched byte is 1
abbrev pub marked : List Span → ℕ → List ℕ → List ℕ
marked spans i [] = []
marked spans i (byte ∷ bytes) = (if is_touched spans i then 1 else byte) ∷ marked spans (suc i) bytes

-- the durable file, what reads give, or that with 1 at each touched byte
abbrev pub picked : ℕ → Stand → Option (List ℕ)
picked pick s = if pick == 0 then s.durable else (if pick == 1 then s.now else option_map (marked s.touched 0) s.now)
