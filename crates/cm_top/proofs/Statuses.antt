-- What each status of a run tells.
use Rattle.std.proofs.Common.{◌≡◌, ◌≢◌, ◌⊎◌, ℕ, List, [], ◌∷◌, Option, Result, Ok, Err, inl, inr, refl, subst, arith}
use Rattle.cm_base.specs.Causes.{Rose}
use Rattle.cm_disk.specs.Disk.{File, Files}
use Rattle.cm_site.specs.Runs.{Outside, RoseAt, Steps, EndsOn}
use Rattle.cm_site.specs.declared.bay.Bay.{Bay}
use Rattle.cm_site.specs.declared.reply.Reply.{Reply}
use Rattle.cm_site.specs.declared.reply.Reply.TheVariants.{Made, Changed, Source, Disk, Memory}
use Rattle.cm_top.specs.Causes.{HasCauses, TellsChange}
use Rattle.cm_top.specs.Texts.{usage_status, reply_status}
use Rattle.cm_top.specs.Runs.{Sunk, Prints, RunMeets, step}
use Rattle.cm_top.specs.Words.{read_line}
use Rattle.cm_top.specs.declared.fault.WordsFault.{WordsFault}
use Rattle.cm_top.specs.declared.fault.WordsFault.TheVariants.{NoCommand, UnknownCommand, BadValue, MissingWord, ExtraWord, Memory as NoMemory}
use Rattle.cm_top.specs.declared.ended.Ended.TheVariants.{Usage, Replied}
use Rattle.cm_top.specs.declared.line.Line.{Line}
use Rattle.cm_top.proofs.Sources.{step_failed, rose}

-- the status of a usage line is 2, or 6 for want of memory
usage_statuses : (fault : WordsFault) → (usage_status fault ≡ 2) ⊎ (usage_status fault ≡ 6)
usage_statuses NoCommand = inl refl
usage_statuses UnknownCommand = inl refl
usage_statuses (BadValue value) = inl refl
usage_statuses (MissingWord value) = inl refl
usage_statuses ExtraWord = inl refl
usage_statuses NoMemory = inr refl

not_reply_2 : (reply : Reply) → 2 ≡ reply_status reply → ⊥
not_reply_2 (Made count) e = omega arith
not_reply_2 reply e = omega arith

not_reply_4 : (reply : Reply) → 4 ≡ reply_status reply → ⊥
not_reply_4 (Made count) e = omega arith
not_reply_4 reply e = omega arith

module _ {D : Type 0} (reads : D → Option Files) (may_leave : D → List ℕ → File → Type 0) (moment : D → ℕ) (left_since : D → ℕ → Files → Type 0) (faults : D → ℕ) (words : List (List ℕ)) (from to : Outside) (minute : ℕ) (old new : List (Bay D)) (out out' : Sunk) where
  -- the reply where the folder or the input failed
  source_rose : (line : Line) → Steps reads may_leave moment left_since (step line) from to minute old new Source → Rose from.folder.faults to.folder.faults ⊎ Rose from.input.faults to.input.faults
  source_rose line steps = rose from to steps.given steps.starts.readings steps.starts.text (step_failed line steps.given steps.world steps.replies)

  abbrev Third : Type 0
  Third = Rose from.folder.faults to.folder.faults ⊎ Rose from.input.faults to.input.faults ⊎ TellsChange reads may_leave moment left_since words from to minute old new

  by_source : Rose from.folder.faults to.folder.faults ⊎ Rose from.input.faults to.input.faults → Third
  by_source (inl folder) = inl folder
  by_source (inr input) = inr (inl input)

  -- status 3 is that of a folder or an input, which failed, or of a folder of which a file was changed
  ends_3 : (line : Line) → read_line words ≡ Ok line → (reply : Reply) → 3 ≡ reply_status reply → EndsOn reads may_leave moment left_since faults (step line) from to minute reply old new → Third
  ends_3 line is Source e ends = by_source (source_rose line ends)
  ends_3 line is (Changed path first first_size second second_size) e ends =
      inr (inr (record { line = line; read = is; path = path; first = first; first_size = first_size; second = second; second_size = second_size; steps = ends }))
  ends_3 line is reply e ends = absurd (omega arith)

  -- status 5 is that of a disk, which failed
  ends_5 : (line : Line) (reply : Reply) → 5 ≡ reply_status reply → EndsOn reads may_leave moment left_since faults (step line) from to minute reply old new → (bay : List ℕ) × RoseAt faults bay old new
  ends_5 line (Disk bay) e ends = (bay, ends.0)
  ends_5 line reply e ends = absurd (omega arith)

  -- a usage line or want of memory ends by status 2, 4 or 6
  usage_ends : (fault : WordsFault) (n : ℕ) → n ≢ 2 → n ≢ 4 → n ≢ 6 → Prints (Usage fault) out out' n ⊎ Prints (Replied Memory) out out' n → ⊥
  usage_ends fault n a b c (inl (inl all)) = by (usage_statuses fault)
    where
      by : (usage_status fault ≡ 2) ⊎ (usage_status fault ≡ 6) → ⊥
      by (inl two) = omega (arith, all.status, two)
      by (inr six) = omega (arith, all.status, six)
  usage_ends fault n a b c (inl (inr front)) = omega (arith, front.status)
  usage_ends fault n a b c (inr (inl all)) = omega (arith, all.status)
  usage_ends fault n a b c (inr (inr front)) = omega (arith, front.status)

  -- a reply whose status isn't 4 was printed whole
  whole : (reply : Reply) (n : ℕ) → n ≢ 4 → n ≢ 6 → Prints (Replied reply) out out' n ⊎ Prints (Replied Memory) out out' n → n ≡ reply_status reply
  whole reply n a b (inl (inl all)) = all.status
  whole reply n a b (inl (inr front)) = absurd (a front.status)
  whole reply n a b (inr (inl all)) = absurd (b all.status)
  whole reply n a b (inr (inr front)) = absurd (a front.status)

  rose_4 : (reply : Reply) → Prints (Replied reply) out out' 4 → Rose out.faults out'.faults
  rose_4 reply (inl all) = absurd (not_reply_4 reply all.status)
  rose_4 reply (inr front) = front.rose

  either_4 : (reply : Reply) → Prints (Replied reply) out out' 4 ⊎ Prints (Replied Memory) out out' 4 → Rose out.faults out'.faults
  either_4 reply (inl prints) = rose_4 reply prints
  either_4 reply (inr memory) = rose_4 Memory memory

  usage_4 : (fault : WordsFault) → Prints (Usage fault) out out' 4 ⊎ Prints (Replied Memory) out out' 4 → Rose out.faults out'.faults
  usage_4 fault (inl (inl all)) = by (usage_statuses fault)
    where
      by : (usage_status fault ≡ 2) ⊎ (usage_status fault ≡ 6) → Rose out.faults out'.faults
      by (inl two) = absurd (omega (arith, all.status, two))
      by (inr six) = absurd (omega (arith, all.status, six))
  usage_4 fault (inl (inr front)) = front.rose
  usage_4 fault (inr memory) = rose_4 Memory memory

  memory_ends : (n : ℕ) → n ≢ 4 → n ≢ 6 → Prints (Replied Memory) out out' n → ⊥
  memory_ends n a b (inl all) = b all.status
  memory_ends n a b (inr front) = a front.status

  -- how a line ends, or there is no memory to read it
  abbrev EndsBy : Line → ℕ → Type 0
  EndsBy line n =
      ((reply : Reply) × EndsOn reads may_leave moment left_since faults (step line) from to minute reply old new × (Prints (Replied reply) out out' n ⊎ Prints (Replied Memory) out out' n))
      ⊎ ((new ≡ old) × Prints (Replied Memory) out out' n)

  line_2 : (line : Line) → EndsBy line 2 → ⊥
  line_2 line (inl (reply, ends, prints)) = not_reply_2 reply (whole reply 2 (omega arith) (omega arith) prints)
  line_2 line (inr (same, prints)) = memory_ends 2 (omega arith) (omega arith) prints

  line_3 : (line : Line) → read_line words ≡ Ok line → EndsBy line 3 → Third
  line_3 line is (inl (reply, ends, prints)) = ends_3 line is reply (whole reply 3 (omega arith) (omega arith) prints) ends
  line_3 line is (inr (same, prints)) = absurd (memory_ends 3 (omega arith) (omega arith) prints)

  line_4 : (line : Line) → EndsBy line 4 → Rose out.faults out'.faults
  line_4 line (inl (reply, ends, prints)) = either_4 reply prints
  line_4 line (inr (same, prints)) = rose_4 Memory prints

  line_5 : (line : Line) → EndsBy line 5 → (bay : List ℕ) × RoseAt faults bay old new
  line_5 line (inl (reply, ends, prints)) = ends_5 line reply (whole reply 5 (omega arith) (omega arith) prints) ends
  line_5 line (inr (same, prints)) = absurd (memory_ends 5 (omega arith) (omega arith) prints)

  abbrev Meets : ℕ → Type 0
  Meets n = RunMeets reads may_leave moment left_since faults words from to minute old new out out' n

  at_2 : Meets 2 → (fault : WordsFault) × (read_line words ≡ Err fault)
  at_2 meets = by (read_line words) refl
    where
      by : (r : Result Line WordsFault) → read_line words ≡ r → (fault : WordsFault) × (read_line words ≡ Err fault)
      by (Ok line) is = absurd (line_2 line (meets.read line is))
      by (Err fault) is = (fault, is)

  at_3 : Meets 3 → Rose from.folder.faults to.folder.faults ⊎ Rose from.input.faults to.input.faults ⊎ TellsChange reads may_leave moment left_since words from to minute old new
  at_3 meets = by (read_line words) refl
    where
      by : (r : Result Line WordsFault) → read_line words ≡ r → Rose from.folder.faults to.folder.faults ⊎ Rose from.input.faults to.input.faults ⊎ TellsChange reads may_leave moment left_since words from to minute old new
      by (Ok line) is = line_3 line is (meets.read line is)
      by (Err fault) is = absurd (usage_ends fault 3 (omega arith) (omega arith) (omega arith) (meets.refused fault is).1)

  at_4 : Meets 4 → Rose out.faults out'.faults
  at_4 meets = by (read_line words) refl
    where
      by : (r : Result Line WordsFault) → read_line words ≡ r → Rose out.faults out'.faults
      by (Ok line) is = line_4 line (meets.read line is)
      by (Err fault) is = usage_4 fault (meets.refused fault is).1

  at_5 : Meets 5 → (bay : List ℕ) × RoseAt faults bay old new
  at_5 meets = by (read_line words) refl
    where
      by : (r : Result Line WordsFault) → read_line words ≡ r → (bay : List ℕ) × RoseAt faults bay old new
      by (Ok line) is = line_5 line (meets.read line is)
      by (Err fault) is = absurd (usage_ends fault 5 (omega arith) (omega arith) (omega arith) (meets.refused fault is).1)

  pub causes : (result : ℕ) → Meets result → HasCauses reads may_leave moment left_since faults words from to minute old new out out' result
  causes result meets = record {
    two = λ is. at_2 (subst Meets is meets);
    three = λ is. at_3 (subst Meets is meets);
    four = λ is. at_4 (subst Meets is meets);
    five = λ is. at_5 (subst Meets is meets);
  }
