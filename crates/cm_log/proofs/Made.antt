-- Three files make a new log, whatever the disk.
use Rattle.std.proofs.Common.{◌≡◌, ◌⊎◌, inl, inr, ⊎_elim, ℕ, List, [], length, take, Bool, Option, None, Some, is_some, option_map, false, true, refl, sym, ◌∙◌, ap, subst}
use Rattle.std.specs.Prelude.{◌≢◌, Result, Ok, Err, OnErr}
use Rattle.std.specs.Option.{ForSome}
use Rattle.std.proofs.lemmas.Bool.{false≢true}
use Rattle.cm_disk.specs.Disk.{File, Files, bytes_of, put, Only, IsImage, LeavesNoMore, LeavesOnly}
use Rattle.cm_disk.proofs.Moments.{joins, weaker}
use Rattle.cm_disk.proofs.Puts.{put_here, put_there}
use Rattle.cm_log.specs.declared.shelf.Shelf.{Shelf}
use Rattle.cm_log.specs.declared.shelf.Side.{Side}
use Rattle.cm_log.specs.declared.shelf.Side.TheVariants.{First, Second}
use Rattle.cm_log.specs.declared.head.Head.{Head}
use Rattle.cm_log.specs.declared.head.Choice.{Choice}
use Rattle.cm_log.specs.Frames.{KeepsReads}
use Rattle.cm_log.specs.Shelves.{ready_place, log_place, IsNoLog}
use Rattle.cm_log.specs.Heads.{head_of, choice}
use Rattle.cm_log.specs.Logs.{NoLog, Live, reading_at, head_at, told_by, shelved_by, shelved, IsLook, fresh}
use Rattle.cm_log.specs.Settled.{live_log, idle_log, HasLogs, Makes, MakesOrNot, Rests, IsMaking}
use Rattle.cm_log.proofs.Apart.{ready_apart}

pub no_ready : (shelf : Shelf) (files : Files) → files (ready_place shelf) ≡ None → shelved shelf files ≡ NoLog
no_ready shelf files none = ap (λ (f : File). shelved_by f shelf files) none

pub is_fresh : (shelf : Shelf) (files : Files) (ready : List ℕ) → files (ready_place shelf) ≡ Some ready → files (log_place shelf First) ≡ Some live_log → files (log_place shelf Second) ≡ Some idle_log → shelved shelf files ≡ fresh shelf
is_fresh shelf files ready there first second =
    ap (λ (f : File). shelved_by f shelf files) there
    ∙ ap (λ (f : File). told_by (choice (head_of (take 10 (bytes_of f))) (head_at files (log_place shelf Second))) shelf files) first
    ∙ ap (λ (f : File). told_by (choice (head_of (take 10 live_log)) (head_of (take 10 (bytes_of f)))) shelf files) second
    ∙ ap (λ (f : File). Live (log_place shelf First) (reading_at (bytes_of f) 10)) first

pub either_fresh : (shelf : Shelf) (files : Files) (ready : File) → files (ready_place shelf) ≡ ready → files (log_place shelf First) ≡ Some live_log → files (log_place shelf Second) ≡ Some idle_log → (shelved shelf files ≡ NoLog) ⊎ (shelved shelf files ≡ fresh shelf)
either_fresh shelf files None there first second = inl (no_ready shelf files there)
either_fresh shelf files (Some ready) there first second = inr (is_fresh shelf files ready there first second)

-- a size that is not there is that of no file
pub no_file : (file : File) (size : Option ℕ) → is_some size ≡ false → size ≡ option_map length file → file ≡ None
no_file None size none is = refl
no_file (Some bytes) size none is = absurd (false≢true (sym none ∙ ap (λ (o : Option ℕ). is_some o) is))

pub a_file : (file : File) (size : Option ℕ) → is_some size ≡ true → size ≡ option_map length file → is_some file ≡ true
a_file None size some is = absurd (false≢true (sym (ap (λ (o : Option ℕ). is_some o) is) ∙ some))
a_file (Some bytes) size some is = refl

-- a place where reads give nothing, durably
pub none_sure : (file : File) (there : Bool) (may_leave : File → Type 0) → there ≡ false → there ≡ is_some file → Only file may_leave → (file ≡ None) × Only None may_leave
none_sure None there may_leave absent is only = (refl, only)
none_sure (Some bytes) there may_leave absent is only = absurd (false≢true (sym absent ∙ is))

module _ {D : Type 0} (may_leave : D → List ℕ → File → Type 0) (moment : D → ℕ) (left_since : D → ℕ → Files → Type 0) (shelf : Shelf) (files : Files) (old : D) where
  -- while nothing is written
  pub making_quiet : (mid : D) → LeavesOnly moment left_since old mid (IsImage (may_leave old)) → LeavesOnly moment left_since old mid (IsMaking shelf files (may_leave old))
  making_quiet mid run = weaker moment left_since old mid (IsImage (may_leave old)) (IsMaking shelf files (may_leave old)) run (λ left image. record { others = λ q elsewhere. image q; log = inl image })

  -- the making begins after calls that write nothing
  pub making_then : (mid new : D) → LeavesOnly moment left_since old mid (IsImage (may_leave old)) → LeavesNoMore (may_leave old) (may_leave mid) → LeavesOnly moment left_since mid new (IsMaking shelf files (may_leave mid)) → LeavesOnly moment left_since old new (IsMaking shelf files (may_leave old))
  making_then mid new run stop making = joins moment left_since old mid new (IsMaking shelf files (may_leave old)) (IsMaking shelf files (may_leave mid)) (making_quiet mid run) making (λ left m. record {
    others = λ q elsewhere. stop q (left q) (m.others q elsewhere);
    log = ⊎_elim (λ image. inl (λ q. stop q (left q) (image q))) (λ log. inr log) m.log;
  })

  module _ (none : files (ready_place shelf) ≡ None) (sure : Only None (may_leave old (ready_place shelf))) where
    -- while the logs are written there is no `ready`
    pub making_logs : (mid : D) → LeavesOnly moment left_since old mid (λ (left : Files). (q : List ℕ) → IsNoLog shelf q → may_leave old q (left q)) → LeavesOnly moment left_since old mid (IsMaking shelf files (may_leave old))
    making_logs mid run = weaker moment left_since old mid (λ (left : Files). (q : List ℕ) → IsNoLog shelf q → may_leave old q (left q)) (IsMaking shelf files (may_leave old)) run (λ left here. record {
      others = λ q elsewhere. here q elsewhere.logs;
      log = inr (no_ready shelf files none, inl (no_ready shelf left (sure (left (ready_place shelf)) (here (ready_place shelf) (ready_apart shelf)))));
    })

    -- and while `ready` is, both logs are durable
    pub making_ready : (mid new : D) (now : Files) (place : List ℕ) → place ≡ ready_place shelf → HasLogs shelf files now (may_leave mid)
        → LeavesOnly moment left_since old mid (λ (left : Files). (q : List ℕ) → IsNoLog shelf q → may_leave old q (left q))
        → ((q : List ℕ) (file : File) → IsNoLog shelf q → may_leave mid q file → may_leave old q file)
        → LeavesOnly moment left_since mid new (λ (left : Files). (q : List ℕ) → q ≢ place → may_leave mid q (left q))
        → LeavesOnly moment left_since old new (IsMaking shelf files (may_leave old))
    making_ready mid new now place is logs run others next = joins moment left_since old mid new (IsMaking shelf files (may_leave old)) (λ (left : Files). (q : List ℕ) → q ≢ place → may_leave mid q (left q)) (making_logs mid run) next (λ left here.
        let log : (side : Side) → left (log_place shelf side) ≡ now (log_place shelf side) = λ side. logs.durable side (left (log_place shelf side)) (here (log_place shelf side) (λ e. ready_apart shelf side (sym (e ∙ is)))) in
        record {
          others = λ q elsewhere. others q (left q) elsewhere.logs (here q (λ e. elsewhere.ready (e ∙ is)));
          log = inr (no_ready shelf files none, either_fresh shelf left (left (ready_place shelf)) refl (log First ∙ logs.first) (log Second ∙ logs.second));
        })

-- `ready` beside two logs makes a new log
pub makes : (shelf : Shelf) (files now : Files) (may_leave : List ℕ → File → Type 0) (place : List ℕ) → place ≡ ready_place shelf → files (ready_place shelf) ≡ None → HasLogs shelf files now may_leave → Makes shelf files (put now place (Some []))
makes shelf files now may_leave place is none logs =
    let all = put now place (Some []) in
    let ready : all (ready_place shelf) ≡ Some [] = subst (λ (q : List ℕ). all q ≡ Some []) is (put_here now place (Some [])) in
    let log : (side : Side) → all (log_place shelf side) ≡ now (log_place shelf side) = λ side. put_there now place (Some []) (log_place shelf side) (λ e. ready_apart shelf side (sym (e ∙ is))) in
    record {
      none = no_ready shelf files none;
      made = is_fresh shelf all [] ready (log First ∙ logs.first) (log Second ∙ logs.second);
      bytes = record { ready = ready; first = log First ∙ logs.first; second = log Second ∙ logs.second };
      others = λ q elsewhere. put_there now place (Some []) q (λ e. elsewhere.ready (e ∙ is)) ∙ logs.others q elsewhere.logs;
    }

-- a fact that holds is one after an Err
pub after_err : {T E P : Type 0} (r : Result T E) → P → OnErr r P
after_err (Ok x) p = tt
after_err (Err e) p = p

-- what reads give after a failure: if nothing was written, what they gave
pub failed_quiet : (shelf : Shelf) (old new : Option Files) → new ≡ old → MakesOrNot shelf old new
failed_quiet shelf old new same = λ files told. (files, same ∙ told, inl same)

-- after calls that write nothing, what the making gives
pub failed_then : (shelf : Shelf) (old mid new : Option Files) → mid ≡ old → MakesOrNot shelf mid new → MakesOrNot shelf old new
failed_then shelf old mid new same failed = subst (λ (o : Option Files). MakesOrNot shelf o new) same failed

-- while the logs are written, no log
pub failed_logs : (shelf : Shelf) (old new : Option Files) → ForSome old (λ files. files (ready_place shelf) ≡ None) → KeepsReads (IsNoLog shelf) old new → MakesOrNot shelf old new
failed_logs shelf old new blank kept = λ files told.
    let none = blank files told in
    let now = kept files told in
    (now.0, now.1, inr (no_ready shelf files none, inl (no_ready shelf now.0 (now.2 (ready_place shelf) (ready_apart shelf) ∙ none))))

-- while `ready` is, none or a whole new one
pub failed_ready : (shelf : Shelf) (old mid new : Option Files) (may_leave : List ℕ → File → Type 0) (place : List ℕ) → place ≡ ready_place shelf → ForSome old (λ files. files (ready_place shelf) ≡ None)
    → ForSome old (λ files. (now : Files) × (mid ≡ Some now) × HasLogs shelf files now may_leave) → KeepsReads (λ q. q ≢ place) mid new → MakesOrNot shelf old new
failed_ready shelf old mid new may_leave place is blank made kept = λ files told.
    let logs = made files told in
    let now = kept logs.0 logs.1 in
    let log : (side : Side) → now.0 (log_place shelf side) ≡ logs.0 (log_place shelf side) = λ side. now.2 (log_place shelf side) (λ e. ready_apart shelf side (sym (e ∙ is))) in
    (now.0, now.1, inr (no_ready shelf files (blank files told), either_fresh shelf now.0 (now.0 (ready_place shelf)) refl (log First ∙ logs.2.first) (log Second ∙ logs.2.second)))

-- and once it is durable all of it is
pub rests_made : (shelf : Shelf) (files now : Files) (old new : List ℕ → File → Type 0) (place : List ℕ) → place ≡ ready_place shelf → HasLogs shelf files now old → Only (Some []) (new place)
    → ((q : List ℕ) (file : File) → q ≢ place → new q file → old q file) → Rests shelf (put now place (Some [])) new
rests_made shelf files now old new place is logs sure others = record {
  ready = subst (λ (q : List ℕ). Only (put now place (Some []) q) (new q)) is (subst (λ (f : File). Only f (new place)) (sym (put_here now place (Some []))) sure);
  logs = λ side left l.
      let other : log_place shelf side ≢ place = λ e. ready_apart shelf side (sym (e ∙ is)) in
      logs.durable side left (others (log_place shelf side) left other l) ∙ sym (put_there now place (Some []) (log_place shelf side) other);
}

-- which log is live, by a size and two heads
pub look_some : (shelf : Shelf) (files : Files) (ready first second : List ℕ) (size : Option ℕ) (one two : Head) → ready ≡ ready_place shelf → first ≡ log_place shelf First → second ≡ log_place shelf Second
    → is_some size ≡ true → size ≡ option_map length (files ready) → one ≡ head_at files first → two ≡ head_at files second → shelved shelf files ≡ told_by (choice one two) shelf files
look_some shelf files ready first second size one two er ef es some value a b =
    present (files (ready_place shelf)) (ap (λ (q : List ℕ). is_some (files q)) (sym er) ∙ a_file (files ready) size some value)
    ∙ ap (λ (h : Head). told_by (choice h (head_at files (log_place shelf Second))) shelf files) (sym (a ∙ ap (λ (q : List ℕ). head_at files q) ef))
    ∙ ap (λ (h : Head). told_by (choice one h) shelf files) (sym (b ∙ ap (λ (q : List ℕ). head_at files q) es))
  where
    present : (f : File) → is_some f ≡ true → shelved_by f shelf files ≡ told_by (choice (head_at files (log_place shelf First)) (head_at files (log_place shelf Second))) shelf files
    present None some = absurd (false≢true some)
    present (Some bytes) some = refl

-- what a look found, by its parts
pub look_is : (shelf : Shelf) (files : Files) (found : Option Choice) (inner c : Choice) → found ≡ Some inner → inner ≡ c → IsLook found shelf files → shelved shelf files ≡ told_by c shelf files
look_is shelf files found inner c is_some is look =
    subst (λ (o : Option Choice). IsLook o shelf files) is_some look ∙ ap (λ (x : Choice). told_by x shelf files) is

pub look_none : (shelf : Shelf) (files : Files) (found : Option Choice) → found ≡ None → IsLook found shelf files → shelved shelf files ≡ NoLog
look_none shelf files found is look = subst (λ (o : Option Choice). IsLook o shelf files) is look
