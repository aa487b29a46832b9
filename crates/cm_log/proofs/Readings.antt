-- Reading the records of a file, gate by gate.
use Rattle.std.proofs.Common.{◌≡◌, inl, inr, ℕ, zero, suc, ◌+◌, ◌<◌, ◌≤◌, Bool, true, false, if◌then◌else◌, nat_lt, ◌==◌, not, List, [], ◌∷◌, ◌++◌, length, take, drop, get_or, refl, sym, ◌∙◌, ap, subst, arith, append_assoc, length-drop}
use Rattle.std.specs.Prelude.{◌≢◌}
use Rattle.std.specs.Int.{to_le_bytes, from_le_bytes, w32}
use Rattle.std.proofs.lemmas.Bool.{cases_eq}
use Rattle.std.proofs.lemmas.Bool.Decides.{nat_tests}
use Rattle.std.proofs.lemmas.Nat.{from_le_bytes-to_le_bytes_4}
use Rattle.std.proofs.lemmas.List.{take_at, drop_at, drop_all, get_or-drop, drop-drop}
use Rattle.cm_log.specs.declared.prefix.Prefix.{Prefix}
use Rattle.cm_log.specs.declared.prefix.Prefix.TheVariants.{Shut, Cut, TooLong, Body}
use Rattle.cm_log.specs.Logs.{Entry, Ending, Closed, Broken, Reading, ended, following, closed, piece, prefix_of, with_body, read_by, reading_within, reading_at}
use Rattle.cm_log.specs.Records.{measured}
use Rattle.cm_log.specs.Fronts.{one_more}
use Rattle.cm_log.proofs.Pieces.{piece_same}

past : (most : ℕ) (bytes : List ℕ) (at : ℕ) → length bytes ≤ at → reading_within (suc most) bytes at ≡ ended (Broken (length bytes))
past most bytes at le = ap (λ (l : List ℕ). read_by (prefix_of (take 5 l)) bytes at (reading_within most bytes)) (drop_all at bytes le)

same_by : (p : Prefix) (bytes : List ℕ) (at : ℕ) (one two : ℕ → Reading) → ((len : ℕ) → one (at + 5 + len) ≡ two (at + 5 + len)) → read_by p bytes at one ≡ read_by p bytes at two
same_by Shut bytes at one two same = refl
same_by Cut bytes at one two same = refl
same_by TooLong bytes at one two same = refl
same_by (Body len) bytes at one two same = ap (λ (r : Reading). with_body bytes at len r) (same len)

-- the bound of the recursion is of no account
pub enough : (f g : ℕ) (bytes : List ℕ) (at : ℕ) → length bytes ≤ f + at → length bytes ≤ g + at → reading_within f bytes at ≡ reading_within g bytes at
enough zero zero bytes at p q = refl
enough zero (suc g) bytes at p q = sym (past g bytes at (omega arith))
enough (suc f) zero bytes at p q = past f bytes at (omega arith)
enough (suc f) (suc g) bytes at p q = same_by (prefix_of (piece bytes at 5)) bytes at (reading_within f bytes) (reading_within g bytes) (λ len. enough f g bytes (at + 5 + len) (omega arith) (omega arith))

-- one step
pub reading_step : (bytes : List ℕ) (at : ℕ) → reading_at bytes at ≡ read_by (prefix_of (piece bytes at 5)) bytes at (reading_at bytes)
reading_step bytes at = enough (length bytes) (suc (length bytes)) bytes at (omega arith) (omega arith)

open_prefix : (rest : List ℕ) (p q : Bool) (len : ℕ) → (if p then Cut else (if q then TooLong else Body len)) ≢ Shut
open_prefix rest true q len is = absurd (cc)
open_prefix rest false true len is = absurd (cc)
open_prefix rest false false len is = absurd (cc)

shut_list : (xs : List ℕ) → prefix_of (take 5 xs) ≡ Shut → (0 < length xs) × (get_or xs 0 0 ≢ 1)
shut_list [] is = absurd (cc)
shut_list (x ∷ xs) is = (
  omega arith,
  λ one. open_prefix (take 4 xs) (nat_lt (length (take 4 xs)) 4) (nat_lt 65536 (from_le_bytes w32 (take 4 xs))) (from_le_bytes w32 (take 4 xs))
      (subst (λ (g : ℕ). (if not (g == 1) then Shut else (if nat_lt (length (take 4 xs)) 4 then Cut else (if nat_lt 65536 (from_le_bytes w32 (take 4 xs)) then TooLong else Body (from_le_bytes w32 (take 4 xs))))) ≡ Shut) one is),
)

pub shut_at : (bytes : List ℕ) (at : ℕ) → prefix_of (piece bytes at 5) ≡ Shut → (at < length bytes) × (get_or bytes at 0 ≢ 1)
shut_at bytes at is =
    let h = shut_list (drop at bytes) is in
    let n : 0 < length (drop at bytes) = h.0 in
    (omega (arith, length-drop at bytes), λ one. h.1 (get_or-drop at bytes 0 0 ∙ ap (λ (i : ℕ). get_or bytes i 0) (omega arith) ∙ one))

pub not_closed : (n e : ℕ) (entries : List Entry) → ended (Broken n) ≡ closed entries e → ⊥
not_closed n e entries is =
    let ends : Broken n ≡ Closed e = ap (λ (r : Reading). r.ending) is in
    absurd (cc)

-- the records from a gate on end at a closed gate, and another file with the same bytes before that gate has the same records up to there
pub record Upto (bytes : List ℕ) (at e : ℕ) (entries : List Entry) : Type 0 where
  pub within : at ≤ e
  pub there : e < length bytes
  pub shut : get_or bytes e 0 ≢ 1
  pub opens : (front back : List Entry) (entry : Entry) → entries ≡ front ++ entry ∷ back → (entry.gate < length bytes) × (get_or bytes entry.gate 0 ≡ 1)
  pub again : (other : List ℕ) → take e other ≡ take e bytes → e ≤ length other → reading_at other at ≡ following entries (reading_at other e)

not_none : (front back : List Entry) (entry : Entry) → front ++ entry ∷ back ≡ [] → ⊥
not_none [] back entry is = absurd (cc)
not_none (x ∷ front) back entry is = absurd (cc)

open_list : (xs : List ℕ) (len : ℕ) → prefix_of (take 5 xs) ≡ Body len → (0 < length xs) × (get_or xs 0 0 ≡ 1)
open_list [] len is = absurd (cc)
open_list (x ∷ xs) len is = elim (cases_eq x 1) [
  | inl one ↦ (omega arith, one)
  | inr other ↦
      let test : (x == 1) ≡ false = grind (arith, nat_tests) in
      let shut : Shut ≡ Body len = ap (λ (b : Bool). if not b then Shut else (if nat_lt (length (take 4 xs)) 4 then Cut else (if nat_lt 65536 (from_le_bytes w32 (take 4 xs)) then TooLong else Body (from_le_bytes w32 (take 4 xs))))) (sym test) ∙ is in
      absurd (cc)
]

open_at : (bytes : List ℕ) (at len : ℕ) → prefix_of (piece bytes at 5) ≡ Body len → (at < length bytes) × (get_or bytes at 0 ≡ 1)
open_at bytes at len is =
    let h = open_list (drop at bytes) len is in
    let n : 0 < length (drop at bytes) = h.0 in
    (omega (arith, length-drop at bytes), ap (λ (i : ℕ). get_or bytes i 0) (omega arith) ∙ sym (get_or-drop at bytes 0 0) ∙ h.1)

opens_of : {bytes : List ℕ} {at e : ℕ} {first : Entry} {entries : List Entry} → (first.gate < length bytes) × (get_or bytes first.gate 0 ≡ 1) → Upto bytes at e entries
    → (front back : List Entry) (entry : Entry) → first ∷ entries ≡ front ++ entry ∷ back → (entry.gate < length bytes) × (get_or bytes entry.gate 0 ≡ 1)
opens_of {bytes} {at} {e} {first} {entries} here u [] back entry is =
    let same : first ≡ entry = cc in
    subst (λ (x : Entry). (x.gate < length bytes) × (get_or bytes x.gate 0 ≡ 1)) same here
opens_of {bytes} {at} {e} {first} {entries} here u (x ∷ front) back entry is = u.opens front back entry (cc)

upto_body : (bytes : List ℕ) (at e len : ℕ) (r : Reading) (entries : List Entry) → prefix_of (piece bytes at 5) ≡ Body len
    → ((es : List Entry) → r ≡ closed es e → Upto bytes (at + 5 + len) e es)
    → (b : Bool) → nat_lt (length (piece bytes (at + 5) len)) len ≡ b
    → (if b then ended (Broken (length bytes)) else following (record { gate = at; body = piece bytes (at + 5) len } ∷ []) r) ≡ closed entries e → Upto bytes at e entries
upto_body bytes at e len r entries pre rec true test is = absurd (not_closed (length bytes) e entries is)
upto_body bytes at e len r entries pre rec false test is =
    let first : Entry = record { gate = at; body = piece bytes (at + 5) len } in
    let all : first ∷ r.entries ≡ entries = ap (λ (x : Reading). x.entries) is in
    let last : r.ending ≡ Closed e = ap (λ (x : Reading). x.ending) is in
    let u = rec r.entries (ap (λ (x : Ending). record { entries = r.entries; ending = x }) last) in
    record {
      within = omega (arith, u.within);
      there = u.there;
      shut = u.shut;
      opens = λ front back entry is_one. opens_of (open_at bytes at len pre) u front back entry (all ∙ is_one);
      again = λ other same long.
          let start = piece_same e other bytes same at 5 (omega (arith, u.within)) in
          let body = piece_same e other bytes same (at + 5) len (omega (arith, u.within)) in
          reading_step other at
          ∙ ap (λ (l : List ℕ). read_by (prefix_of l) other at (reading_at other)) start
          ∙ ap (λ (p : Prefix). read_by p other at (reading_at other)) pre
          ∙ ap (λ (l : List ℕ). if nat_lt (length l) len then ended (Broken (length other)) else following (record { gate = at; body = l } ∷ []) (reading_at other (at + 5 + len))) body
          ∙ ap (λ (b : Bool). if b then ended (Broken (length other)) else following (first ∷ []) (reading_at other (at + 5 + len))) test
          ∙ ap (λ (x : Reading). following (first ∷ []) x) (u.again other same long)
          ∙ ap (λ (l : List Entry). following l (reading_at other e)) all;
    }

upto_by : (most : ℕ) (bytes : List ℕ) (at e : ℕ) (entries : List Entry)
    → ((at : ℕ) (es : List Entry) → reading_within most bytes at ≡ closed es e → Upto bytes at e es)
    → (p : Prefix) → prefix_of (piece bytes at 5) ≡ p → read_by p bytes at (reading_within most bytes) ≡ closed entries e → Upto bytes at e entries
upto_by most bytes at e entries rec Shut pre is =
    let none : [] ≡ entries = ap (λ (x : Reading). x.entries) is in
    let ends : Closed at ≡ Closed e = ap (λ (x : Reading). x.ending) is in
    let here : at ≡ e = cc in
    let h = shut_at bytes at pre in
    record {
      within = omega arith;
      there = omega (arith, h.0);
      shut = λ one. h.1 (ap (λ (i : ℕ). get_or bytes i 0) here ∙ one);
      opens = λ front back entry is_one. absurd (not_none front back entry (sym (none ∙ is_one)));
      again = λ other same long. ap (λ (i : ℕ). reading_at other i) here ∙ ap (λ (l : List Entry). following l (reading_at other e)) none;
    }
upto_by most bytes at e entries rec Cut pre is = absurd (not_closed (length bytes) e entries is)
upto_by most bytes at e entries rec TooLong pre is = absurd (not_closed (at + 1) e entries is)
upto_by most bytes at e entries rec (Body len) pre is =
    upto_body bytes at e len (reading_within most bytes (at + 5 + len)) entries pre (λ es. rec (at + 5 + len) es) (nat_lt (length (piece bytes (at + 5) len)) len) refl is

pub upto : (most : ℕ) (bytes : List ℕ) (at e : ℕ) (entries : List Entry) → reading_within most bytes at ≡ closed entries e → Upto bytes at e entries
upto zero bytes at e entries is = absurd (not_closed (length bytes) e entries is)
upto (suc most) bytes at e entries is = upto_by most bytes at e entries (λ a es. upto most bytes a e es) (prefix_of (piece bytes at 5)) refl is

-- a gate that is not open
pub shut_here : (front : List ℕ) (gate : ℕ) (rest : List ℕ) (at : ℕ) → length front ≡ at → gate ≢ 1 → reading_at (front ++ gate ∷ rest) at ≡ closed [] at
shut_here front gate rest at long shut =
    let bytes = front ++ gate ∷ rest in
    let test : (gate == 1) ≡ false = grind (arith, nat_tests) in
    reading_step bytes at
    ∙ ap (λ (l : List ℕ). read_by (prefix_of (take 5 l)) bytes at (reading_at bytes)) (drop_at front (gate ∷ rest) at long)
    ∙ ap (λ (b : Bool). read_by (if not b then Shut else (if nat_lt (length (take 4 rest)) 4 then Cut else (if nat_lt 65536 (from_le_bytes w32 (take 4 rest)) then TooLong else Body (from_le_bytes w32 (take 4 rest))))) bytes at (reading_at bytes)) test

-- a record
pub record_here : (front body tail : List ℕ) (at : ℕ) → length front ≡ at → length body ≤ 65536
    → reading_at (one_more front body ++ tail) at ≡ following (record { gate = at; body = body } ∷ []) (reading_at (one_more front body ++ tail) (at + 5 + length body))
record_here front body tail at long short =
    let bytes = one_more front body ++ tail in
    let n = length body in
    let field = to_le_bytes w32 n in
    let split : bytes ≡ front ++ (1 ∷ (field ++ (body ++ tail))) = append_assoc front (1 ∷ measured body) tail ∙ ap (λ (l : List ℕ). front ++ (1 ∷ l)) (append_assoc field body tail) in
    let start : piece bytes at 5 ≡ 1 ∷ field = ap (λ (l : List ℕ). take 5 (drop at l)) split ∙ ap (λ (l : List ℕ). take 5 l) (drop_at front (1 ∷ (field ++ (body ++ tail))) at long) in
    let value : from_le_bytes w32 field ≡ n = from_le_bytes-to_le_bytes_4 n (omega arith) in
    let small : nat_lt 65536 n ≡ false = grind (arith, nat_tests) in
    let here : drop (at + 5) bytes ≡ body ++ tail =
    ap (λ (l : List ℕ). drop (at + 5) l) split ∙ sym (drop-drop 5 at (front ++ (1 ∷ (field ++ (body ++ tail))))) ∙ ap (λ (l : List ℕ). drop 5 l) (drop_at front (1 ∷ (field ++ (body ++ tail))) at long) in
    let whole : piece bytes (at + 5) n ≡ body = ap (λ (l : List ℕ). take n l) here ∙ take_at body tail n refl in
    let full : nat_lt (length body) n ≡ false = grind (arith, nat_tests) in
    reading_step bytes at
    ∙ ap (λ (l : List ℕ). read_by (prefix_of l) bytes at (reading_at bytes)) start
    ∙ ap (λ (m : ℕ). read_by (if nat_lt 65536 m then TooLong else Body m) bytes at (reading_at bytes)) value
    ∙ ap (λ (b : Bool). read_by (if b then TooLong else Body n) bytes at (reading_at bytes)) small
    ∙ ap (λ (l : List ℕ). if nat_lt (length l) n then ended (Broken (length bytes)) else following (record { gate = at; body = l } ∷ []) (reading_at bytes (at + 5 + n))) whole
    ∙ ap (λ (b : Bool). if b then ended (Broken (length bytes)) else following (record { gate = at; body = body } ∷ []) (reading_at bytes (at + 5 + n))) full
