-- What reads give at other places, over several calls.
use Rattle.std.proofs.Common.{◌≡◌, ℕ, List, refl, ◌∙◌}
use Rattle.std.specs.Prelude.{◌≢◌, Option, Result, Ok, Err}
use Rattle.cm_disk.specs.Disk.{File, Files, Does, put}
use Rattle.cm_disk.proofs.Puts.{put_there}
use Rattle.cm_log.specs.Frames.{KeepsReads}

pub keeps_same : (P : List ℕ → Type 0) (old new : Option Files) → new ≡ old → KeepsReads P old new
keeps_same P old new same files told = (files, same ∙ told, λ q p. refl)

pub keeps_then : (P : List ℕ → Type 0) (old mid new : Option Files) → KeepsReads P old mid → KeepsReads P mid new → KeepsReads P old new
keeps_then P old mid new one two files told =
    let m = one files told in
    let n = two m.0 m.1 in
    (n.0, n.1, λ q p. n.2 q p ∙ m.2 q p)

pub keeps_fewer : (P Q : List ℕ → Type 0) (old new : Option Files) → ((q : List ℕ) → Q q → P q) → KeepsReads P old new → KeepsReads Q old new
keeps_fewer P Q old new fewer keeps files told =
    let n = keeps files told in
    (n.0, n.1, λ q p. n.2 q (fewer q p))

pub keeps_others : {T E : Type 0} (old new : Option Files) (place : List ℕ) (work : File → File) (result : Result T E) → Does old new place work result → KeepsReads (λ q. q ≢ place) old new
keeps_others old new place work (Ok x) does files told = (put files place (work (files place)), does.ok files told, λ q apart. put_there files place (work (files place)) q apart)
keeps_others old new place work (Err e) does files told =
    let part = does.err files told in
    (put files place part.0, part.1, λ q apart. put_there files place part.0 q apart)
