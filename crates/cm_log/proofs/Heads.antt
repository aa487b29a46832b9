-- A live log that is chosen has its whole head.
use Rattle.std.proofs.Common.{◌≡◌, ℕ, ◌≤◌, Bool, true, false, if◌then◌else◌, nat_lt, ◌==◌, not, List, length, refl, sym, subst, arith, length-take}
use Rattle.std.proofs.lemmas.Bool.Decides.{nat_tests}
use Rattle.cm_disk.specs.Disk.{Files, bytes_of}
use Rattle.cm_log.specs.declared.shelf.Shelf.{Shelf}
use Rattle.cm_log.specs.declared.shelf.Side.{Side}
use Rattle.cm_log.specs.declared.shelf.Side.TheVariants.{First, Second}
use Rattle.cm_log.specs.declared.head.Head.{Head}
use Rattle.cm_log.specs.declared.head.Choice.TheVariants.{Chosen, Refused}
use Rattle.cm_log.specs.Shelves.{log_place}
use Rattle.cm_log.specs.Heads.{is_ahead, if_readable}
use Rattle.cm_log.specs.Logs.{Reading, Live, head_at, shelved}
use Rattle.cm_log.proofs.Shelveds.{lives}

of_side : Side → Head → Head → Head
of_side First first second = first
of_side Second first second = second

readable_by : (s side : Side) (n : ℕ) (p q : Bool) → nat_lt n 10 ≡ q → (if p then Refused s 1 else (if q then Refused s n else Chosen s)) ≡ Chosen side → (s ≡ side) × (10 ≤ n)
readable_by s side n true q test is = absurd (cc)
readable_by s side n false true test is = absurd (cc)
readable_by s side n false false test is = (cc, grind (arith, nat_tests))

readable : (s side : Side) (head : Head) → if_readable s head ≡ Chosen side → (s ≡ side) × (10 ≤ head.count)
readable s side head is = readable_by s side head.count (not (head.form == 1)) (nat_lt head.count 10) refl is

chosen_by : (first second : Head) (side : Side) (a b c d : Bool)
    → (if a then Refused First 0 else (if b then Refused Second 0 else (if c then if_readable First first else (if d then if_readable Second second else Refused First 0)))) ≡ Chosen side
    → 10 ≤ (of_side side first second).count
unfolding of_side
chosen_by first second side true b c d is = absurd (cc)
chosen_by first second side false true c d is = absurd (cc)
chosen_by first second side false false true d is =
    let r = readable First side first is in
    subst (λ (s : Side). 10 ≤ (of_side s first second).count) r.0 r.1
chosen_by first second side false false false true is =
    let r = readable Second side second is in
    subst (λ (s : Side). 10 ≤ (of_side s first second).count) r.0 r.1
chosen_by first second side false false false false is = absurd (cc)

count_at : (files : Files) (place : List ℕ) → 10 ≤ (head_at files place).count → 10 ≤ length (bytes_of (files place))
count_at files place h = omega (arith, h, length-take 10 (bytes_of (files place)))

at_side : (shelf : Shelf) (files : Files) (side : Side) → 10 ≤ (of_side side (head_at files (log_place shelf First)) (head_at files (log_place shelf Second))).count → 10 ≤ length (bytes_of (files (log_place shelf side)))
unfolding of_side
at_side shelf files First h = count_at files (log_place shelf First) h
at_side shelf files Second h = count_at files (log_place shelf Second) h

pub head_there : (shelf : Shelf) (files : Files) (place : List ℕ) (reading : Reading) → shelved shelf files ≡ Live place reading → 10 ≤ length (bytes_of (files place))
head_there shelf files place reading is =
    let l = lives shelf files place reading is in
    let first = head_at files (log_place shelf First) in
    let second = head_at files (log_place shelf Second) in
    subst (λ (p : List ℕ). 10 ≤ length (bytes_of (files p))) (sym l.at)
    (at_side shelf files l.side (chosen_by first second l.side (first.count == 0) (second.count == 0) (is_ahead first second) (is_ahead second first) l.chosen))
