-- The lines that need the bays open.
use Rattle.std.proofs.Common.{◌≡◌, ◌≢◌, ℕ, List, Option, refl}
use Rattle.cm_disk.specs.Disk.{File, Files}
use Rattle.cm_site.specs.Contents.{site}
use Rattle.cm_site.specs.Machine.{Given, Step, opened, with_part, topology_in_records}
use Rattle.cm_site.specs.OneLibrary as one
use Rattle.cm_site.specs.Runs.{Outside, EndsOn}
use Rattle.cm_site.specs.Worlds.{World, part_at, records_of}
use Rattle.cm_site.specs.declared.bay.Bay.{Bay}
use Rattle.cm_site.specs.declared.reply.Reply.{Reply}
use Rattle.cm_top.specs.Runs.{step}
use Rattle.cm_top.specs.declared.line.Line.{Line}
use Rattle.cm_top.specs.declared.line.Line.TheVariants.{Init, Add, Update, Drop, List as ListBay, Validate, WhatIf, Purge, Topology}

module _ {D : Type 0} (reads : D → Option Files) (may_leave : D → List ℕ → File → Type 0) (moment : D → ℕ) (left_since : D → ℕ → Files → Type 0) (faults : D → ℕ) (from to : Outside) (minute : ℕ) (reply : Reply) (old new : List (Bay D)) where
  -- the reply of bays that are not open is that of each line but `init`
  pub not_open : ((needs : Given → World → Step) → EndsOn reads may_leave moment left_since faults (λ given. opened (needs given)) from to minute reply old new)
      → (line : Line) → ((names : List (List ℕ)) → line ≢ Init names) → EndsOn reads may_leave moment left_since faults (step line) from to minute reply old new
  not_open ends (Init names) other = absurd (other names refl)
  not_open ends (Add id) other = ends (λ given world. with_part site (one.add id) given (part_at site world))
  not_open ends (Update id) other = ends (λ given world. with_part site (one.update id) given (part_at site world))
  not_open ends (Drop bay job) other = ends (λ given world. with_part bay (λ g. one.drop job) given (part_at bay world))
  not_open ends (ListBay bay) other = ends (λ given world. with_part bay (λ g. one.list) given (part_at bay world))
  not_open ends (Validate bay id version) other = ends (λ given world. with_part bay (one.validate id version) given (part_at bay world))
  not_open ends (WhatIf bay) other = ends (λ given world. with_part bay (λ g state. one.what_if g) given (part_at bay world))
  not_open ends (Purge bay) other = ends (λ given world. with_part bay (λ g state. one.purge g) given (part_at bay world))
  not_open ends Topology other = ends (λ given world. topology_in_records given (records_of world) world)
