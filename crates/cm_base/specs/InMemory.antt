-- What clauses see of a source and a sink in memory.
use Rattle.std.specs.Prelude.{◌≡◌, ◌⊎◌, ℕ, ◌+◌, ◌-◌, ◌^◌, min, true, false, List, drop, Option, Some, Result, OnOk, OnErr}
use Rattle.cm_base.specs.declared.in_memory.MemSource.{MemSource}
use Rattle.cm_base.specs.declared.in_memory.MemSink.{MemSink}
use Rattle.cm_base.specs.Listed.{is_listed}

-- Which calls are to fail, by their numbers from 0; the number of the next call; at most how many bytes go through one
-- call; how often a call failed for want of memory, and how often at all.
pub record Counters : Type 0 where
  pub listed : List ℕ
  pub number : ℕ
  pub piece : ℕ
  pub short : ℕ
  pub faults : ℕ

-- the counters of a source, which wants no memory
abbrev pub counters_of_source : MemSource → Counters
counters_of_source source = record { listed = source.fail.items; number = source.number; piece = source.piece; short = 0; faults = source.faults }

-- the counters of a sink
abbrev pub counters_of_sink : MemSink → Counters
counters_of_sink sink = record { listed = sink.fail.items; number = sink.number; piece = sink.piece; short = sink.short; faults = sink.faults }

-- the bytes that a source has left, and those that a sink got
abbrev pub left_of : MemSource → Option (List ℕ)
left_of source = Some (drop source.at source.bytes.items)

abbrev pub got_of : MemSink → Option (List ℕ)
got_of sink = Some sink.bytes.items

-- before the first call
abbrev pub fresh : List ℕ → ℕ → Counters
fresh listed piece = record { listed = listed; number = 0; piece = piece; short = 0; faults = 0 }

-- one more, up to the last value of a count
abbrev pub raised : ℕ → ℕ
raised count = min (count + 1) (2 ^ 64 - 1)

-- A call takes one number. It fails exactly where that number is a listed one, or where there was no memory.
pub record FailsExactly {T E : Type 0} (old new : Counters) (result : Result T E) : Type 0 where
  pub listed : new.listed ≡ old.listed
  pub piece : new.piece ≡ old.piece
  pub number : new.number ≡ raised old.number
  pub ok : OnOk result ((is_listed old.listed old.number ≡ false) × (new.short ≡ old.short) × (new.faults ≡ old.faults))
  pub err : OnErr result (((is_listed old.listed old.number ≡ true) × (new.short ≡ old.short)) ⊎ (new.short ≡ raised old.short))
  pub counted : OnErr result (new.faults ≡ raised old.faults)
