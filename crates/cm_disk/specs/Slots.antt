-- What a disk in memory keeps of each place.
use Rattle.std.specs.Prelude.{◌+◌, ◌^◌, ◌≤◌, ℕ, List, length, Option, None, Some, Bool, ◌||◌, ◌==◌, nat_le, option_map, Vec}
use Rattle.std.specs.declared.ops.Bound.{Bound}
use Rattle.std.specs.declared.ops.Bound.TheVariants.{Excluded, Unbounded}
use Rattle.std.specs.List.{list_any}
use Rattle.std.specs.Ordering.{nat_cmp}
use Rattle.std.specs.Cmp.Lexicographic.{slice_cmp}
use Rattle.std.specs.BTreeMap.{BTreeMap, get}
use Rattle.std.specs.declared.alloc.Global.{Global}
use Rattle.cm_disk.specs.declared.calls.Slot.{Slot}
use Rattle.cm_disk.specs.declared.calls.Work.{Work}
use Rattle.cm_disk.specs.declared.calls.Work.TheVariants.{Write, Cut, Remove, Sync}
use Rattle.cm_disk.specs.Images.{Stand}
use Rattle.cm_disk.specs.Stands.{absent}

-- the bytes of a file that is kept
abbrev pub file_of : Option (Vec ℕ Global) → Option (List ℕ)
file_of file = option_map (λ bytes. bytes.items) file

abbrev pub stand_of : Slot → Stand
stand_of slot = record { now = file_of slot.file; durable = file_of slot.durable; touched = slot.touched.items; removed = slot.removed }

abbrev pub stand_of_option : Option Slot → Stand
stand_of_option None = absent
stand_of_option (Some slot) = stand_of slot

-- how a place stands by what is kept
abbrev pub stand_in : BTreeMap (List ℕ) Slot → List ℕ → Stand
stand_in slots place = stand_of_option (get (slice_cmp nat_cmp) slots place)

-- a file has at most 2^40 + 131,072 bytes
abbrev pub CanDo : Work → Type 0
CanDo (Write offset bytes) = offset + length bytes.items ≤ 2 ^ 40 + 131072
CanDo (Cut size) = Unit {0}
CanDo Remove = Unit {0}
CanDo Sync = Unit {0}

-- the call with this number is to fail
abbrev pub is_listed : List ℕ → Option ℕ → ℕ → Bool
is_listed fail None number = list_any (λ x. x == number) fail
is_listed fail (Some at) number = nat_le at number || list_any (λ x. x == number) fail

-- where the places above another begin
abbrev pub bound_above : Option (List ℕ) → Bound (List ℕ)
bound_above None = Unbounded
bound_above (Some after) = Excluded after
