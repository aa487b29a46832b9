-- What a run does.
use Rattle.std.specs.Prelude.{◌≡◌, ◌⊎◌, ℕ, List, Option, Ok, Err}
use Rattle.cm_base.specs.Causes.{Rose}
use Rattle.cm_base.specs.Streams.{Gets, GetsFront}
use Rattle.cm_disk.specs.Disk.{File, Files}
use Rattle.cm_site.specs.Machine.{Given, Step, step_init, step_add, step_update, step_drop, step_list, step_validate, step_what_if, step_purge, step_topology}
use Rattle.cm_site.specs.Runs.{Outside, EndsOn}
use Rattle.cm_site.specs.Worlds.{World}
use Rattle.cm_site.specs.declared.bay.Bay.{Bay}
use Rattle.cm_site.specs.declared.reply.Reply.{Reply}
use Rattle.cm_site.specs.declared.reply.Reply.TheVariants.{Memory}
use Rattle.cm_top.specs.Texts.{text, status}
use Rattle.cm_top.specs.Words.{read_line}
use Rattle.cm_top.specs.declared.ended.Ended.{Ended}
use Rattle.cm_top.specs.declared.ended.Ended.TheVariants.{Usage, Replied}
use Rattle.cm_top.specs.declared.fault.WordsFault.{WordsFault}
use Rattle.cm_top.specs.declared.line.Line.{Line}
use Rattle.cm_top.specs.declared.line.Line.TheVariants.{Init, Add, Update, Drop, List as ListBay, Validate, WhatIf, Purge, Topology}

-- a sink: what it got, where it tells that, and how often it failed
pub record Sunk : Type 0 where
  pub got : Option (List ℕ)
  pub faults : ℕ

-- a sink as clauses see it
abbrev pub sunk : {K : Type 0} → (K → Option (List ℕ)) → (K → ℕ) → K → Sunk
sunk got faults out = record { got = got out; faults = faults out }

-- the sink got the whole text, and the status is that of the text
pub record PrintsAll (ended : Ended) (old new : Sunk) (result : ℕ) : Type 0 where
  pub got : Gets old.got new.got (text ended)
  pub status : result ≡ status ended

-- the sink failed: it got a front of the text, and the status is 4
pub record PrintsFront (ended : Ended) (old new : Sunk) (result : ℕ) : Type 0 where
  pub got : GetsFront old.got new.got (text ended)
  pub status : result ≡ 4
  pub rose : Rose old.faults new.faults

abbrev pub Prints : Ended → Sunk → Sunk → ℕ → Type 0
Prints ended old new result = PrintsAll ended old new result ⊎ PrintsFront ended old new result

-- the step of a site for a line
abbrev pub step : Line → Given → World → Step
step (Init names) given = step_init names
step (Add id) given = step_add id given
step (Update id) given = step_update id given
step (Drop bay job) given = step_drop bay job given
step (ListBay bay) given = step_list bay given
step (Validate bay id version) given = step_validate bay id version given
step (WhatIf bay) given = step_what_if bay given
step (Purge bay) given = step_purge bay given
step Topology given = step_topology given

-- What a run does.
pub record RunMeets {D : Type 0} (reads : D → Option Files) (may_leave : D → List ℕ → File → Type 0) (moment : D → ℕ) (left_since : D → ℕ → Files → Type 0) (faults : D → ℕ) (words : List (List ℕ)) (from to : Outside) (minute : ℕ) (old new : List (Bay D)) (out out' : Sunk) (result : ℕ) : Type 0 where
  -- the words are refused: the bays are as they were, and the usage line is printed, or want of memory
  pub refused : (fault : WordsFault) → read_line words ≡ Err fault → (new ≡ old) × (Prints (Usage fault) out out' result ⊎ Prints (Replied Memory) out out' result)
  -- else the line ends by a reply, which is printed, or want of memory for its text
  pub read : (line : Line) → read_line words ≡ Ok line
      → ((reply : Reply) × EndsOn reads may_leave moment left_since faults (step line) from to minute reply old new × (Prints (Replied reply) out out' result ⊎ Prints (Replied Memory) out out' result))
      ⊎ ((new ≡ old) × Prints (Replied Memory) out out' result)
