-- What a crash leaves during a call, and what reads give after it.
use Rattle.std.proofs.Common.{◌≡◌, inl, ℕ, ◌<◌, ◌≤◌, ◌^◌, List}
use Rattle.std.specs.Prelude.{◌≢◌, Option, None, Some}
use Rattle.std.specs.Option.{ForSome}
use Rattle.cm_disk.specs.Disk.{File, Files, IsImage, LeavesOnly}
use Rattle.cm_disk.proofs.Moments.{weaker}
use Rattle.cm_log.specs.declared.state.Log.{Log}
use Rattle.cm_register.specs.Opens.{Noted, OpensOr}
use Rattle.cm_register.specs.Records.{Records}
use Rattle.cm_state.specs.Adding.{Told}
use Rattle.cm_textlib.specs.Places.{topology_place}
use Rattle.cm_records.specs.Kept.{IsRecords}
use Rattle.cm_records.specs.Laws.{LawsBelow}
use Rattle.cm_records.proofs.Standing.{beside_opens}

-- reads give what a crash right after the call may leave
pub now_as_left : {D : Type 0} (reads : D → Option Files) (may_leave : D → List ℕ → File → Type 0) (moment : D → ℕ) (left_since : D → ℕ → Files → Type 0)
    → ((disk : D) (t : ℕ) (files : Files) → t ≤ moment disk → IsImage (may_leave disk) files → left_since disk t files)
    → ((disk : D) (files : Files) → reads disk ≡ Some files → IsImage (may_leave disk) files)
    → (old new : D) (relation : Files → Files → Type 0) (P : Files → Type 0) → Told relation (reads old) (reads new) → ForSome (reads old) (λ files. LeavesOnly moment left_since old new P)
    → ForSome (reads old) (λ files. (now : Files) × (reads new ≡ Some now) × P now)
now_as_left reads may_leave moment left_since counts_now as_it_reads old new relation P places run = λ files told.
    let now = places files told in
    let left = run files told in
    (now.0, now.1, left.each now.0 (counts_now new (moment old) now.0 left.later (as_it_reads new now.0 now.1)))

-- while a text to come is stored, a crash leaves the records
pub storing_leaves : LawsBelow → {D : Type 0} (reads : D → Option Files) (may_leave : D → List ℕ → File → Type 0) (moment : D → ℕ) (left_since : D → ℕ → Files → Type 0)
    (old new : D) (log : Log) (kept : Records) (n : ℕ) (one : Option Noted) → IsRecords reads may_leave old log kept None → n < 2 ^ 32 → kept.number < n
    → LeavesOnly moment left_since old new (λ (left : Files). (q : List ℕ) → q ≢ topology_place n → may_leave old q (left q))
    → ForSome (reads old) (λ files. LeavesOnly moment left_since old new (OpensOr kept one))
storing_leaves laws reads may_leave moment left_since old new log kept n one records small next run = λ x told.
    weaker moment left_since old new (λ (left : Files). (q : List ℕ) → q ≢ topology_place n → may_leave old q (left q)) (OpensOr kept one) run
    (λ left others. inl (beside_opens laws x (may_leave old) log kept records.shelf (records.stands x told) n small next left others))
