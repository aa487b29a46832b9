-- From the parts of a run to what it does.
use Rattle.std.proofs.Common.{◌≡◌, ◌≢◌, ◌⊎◌, ℕ, List, Option, Ok, Err, inl, inr, subst}
use Rattle.cm_disk.specs.Disk.{File, Files}
use Rattle.cm_site.specs.Runs.{Outside, EndsOn}
use Rattle.cm_site.specs.declared.bay.Bay.{Bay}
use Rattle.cm_site.specs.declared.reply.Reply.{Reply}
use Rattle.cm_site.specs.declared.reply.Reply.TheVariants.{Memory}
use Rattle.cm_top.specs.Runs.{Sunk, Prints, RunMeets, step}
use Rattle.cm_top.specs.Words.{read_line}
use Rattle.cm_top.specs.declared.fault.WordsFault.{WordsFault}
use Rattle.cm_top.specs.declared.fault.WordsFault.TheVariants.{NoCommand, UnknownCommand, BadValue, MissingWord, ExtraWord, Memory as NoMemory}
use Rattle.cm_top.specs.declared.ended.Ended.TheVariants.{Usage, Replied}
use Rattle.cm_top.specs.declared.line.Line.{Line}

module _ {D : Type 0} (reads : D → Option Files) (may_leave : D → List ℕ → File → Type 0) (moment : D → ℕ) (left_since : D → ℕ → Files → Type 0) (faults : D → ℕ) (words : List (List ℕ)) (from to : Outside) (minute : ℕ) (old new : List (Bay D)) (out out' : Sunk) (result : ℕ) where
  -- the words were read, and the line ended by this reply
  pub meets_read : (line : Line) (reply : Reply) → read_line words ≡ Ok line
      → EndsOn reads may_leave moment left_since faults (step line) from to minute reply old new
      → Prints (Replied reply) out out' result ⊎ Prints (Replied Memory) out out' result → RunMeets reads may_leave moment left_since faults words from to minute old new out out' result
  meets_read line reply is ends prints = record {
    refused = λ fault no. absurd (cc (is, no));
    read = λ other also.
        inl (reply, subst (λ (l : Line). EndsOn reads may_leave moment left_since faults (step l) from to minute reply old new) (same other also) ends, prints);
  }
    where
      same : (other : Line) → read_line words ≡ Ok other → line ≡ other
      same other also = cc (is, also)

  -- there was no memory to read the words
  meets_memory : new ≡ old → Prints (Replied Memory) out out' result → RunMeets reads may_leave moment left_since faults words from to minute old new out out' result
  meets_memory same prints = record {
    refused = λ fault no. (same, inr prints);
    read = λ line is. inr (same, prints);
  }

  meets_fault : (fault : WordsFault) → read_line words ≡ Err fault → new ≡ old
      → Prints (Usage fault) out out' result ⊎ Prints (Replied Memory) out out' result → RunMeets reads may_leave moment left_since faults words from to minute old new out out' result
  meets_fault fault is same prints = record {
    refused = λ other also. (same, subst (λ (f : WordsFault). Prints (Usage f) out out' result ⊎ Prints (Replied Memory) out out' result) (one other also) prints);
    read = λ line yes. absurd (cc (is, yes));
  }
    where
      one : (other : WordsFault) → read_line words ≡ Err other → fault ≡ other
      one other also = cc (is, also)

  memory_prints : Prints (Usage NoMemory) out out' result → Prints (Replied Memory) out out' result
  memory_prints (inl all) = inl (record { got = all.got; status = all.status })
  memory_prints (inr front) = inr (record { got = front.got; status = front.status; rose = front.rose })

  no_memory : Prints (Usage NoMemory) out out' result ⊎ Prints (Replied Memory) out out' result → Prints (Replied Memory) out out' result
  no_memory (inl usage) = memory_prints usage
  no_memory (inr memory) = memory

  -- the words were refused, or there was no memory to read them
  pub meets_refused : (fault : WordsFault) → (fault ≢ NoMemory → read_line words ≡ Err fault) → new ≡ old
      → Prints (Usage fault) out out' result ⊎ Prints (Replied Memory) out out' result → RunMeets reads may_leave moment left_since faults words from to minute old new out out' result
  meets_refused NoCommand is same prints = meets_fault NoCommand (is (λ e. absurd (cc))) same prints
  meets_refused UnknownCommand is same prints = meets_fault UnknownCommand (is (λ e. absurd (cc))) same prints
  meets_refused (BadValue value) is same prints = meets_fault (BadValue value) (is (λ e. absurd (cc))) same prints
  meets_refused (MissingWord value) is same prints = meets_fault (MissingWord value) (is (λ e. absurd (cc))) same prints
  meets_refused ExtraWord is same prints = meets_fault ExtraWord (is (λ e. absurd (cc))) same prints
  meets_refused NoMemory is same prints = meets_memory same (no_memory prints)
