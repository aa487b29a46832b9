-- A file of bytes that is read as closed records spells them.
use Rattle.std.proofs.Common.{◌≡◌, ℕ, zero, suc, ◌+◌, ◌<◌, ◌≤◌, Bool, true, false, if◌then◌else◌, nat_lt, ◌==◌, not, List, [], ◌∷◌, ◌++◌, length, take, drop, get_or, refl, sym, ◌∙◌, ap, subst, arith, append_assoc, length-take}
use Rattle.std.specs.Prelude.{Some}
use Rattle.std.specs.Int.{to_le_bytes, from_le_bytes, w32}
use Rattle.std.proofs.lemmas.Bool.Decides.{nat_tests}
use Rattle.std.proofs.lemmas.List.{append-nil, take-append-drop, get_or-take, get_or-drop, get_or_past}
use Rattle.std.proofs.lemmas.Nat.{le_bytes_4}
use Rattle.std.proofs.Math.Seq.{take-add, drop-cons}
use Rattle.cm_log.specs.declared.prefix.Prefix.{Prefix}
use Rattle.cm_log.specs.declared.prefix.Prefix.TheVariants.{Shut, Cut, TooLong, Body}
use Rattle.cm_log.specs.Logs.{Entry, Ending, Closed, Broken, Reading, bodies_of, ended, following, closed, piece, prefix_of, read_by, reading_within, reading_at}
use Rattle.cm_log.specs.Records.{measured, spelled, AreShort, HasRecords, entries_from}
use Rattle.cm_log.proofs.Readings.{upto, not_closed}

abbrev pub AreBytes : List ℕ → Type 0
AreBytes bytes = (i : ℕ) → get_or bytes i 0 < 256

piece_bytes : (bytes : List ℕ) (at n : ℕ) → AreBytes bytes → AreBytes (piece bytes at n)
piece_bytes bytes at n all i = by (nat_lt i n) refl
  where
    by : (b : Bool) → nat_lt i n ≡ b → get_or (take n (drop at bytes)) i 0 < 256
    by true test =
        let few : i < n = grind (arith, nat_tests) in
        subst (λ (x : ℕ). x < 256) (sym (get_or-take n (drop at bytes) i 0 few ∙ get_or-drop at bytes i 0)) (all (at + i))
    by false test =
        let many : n ≤ i = grind (arith, nat_tests) in
        subst (λ (x : ℕ). x < 256) (sym (get_or_past (take n (drop at bytes)) i 0 (omega (arith, many, length-take n (drop at bytes))))) (omega arith)

prefix_spells : (xs : List ℕ) (len : ℕ) → length xs ≤ 5 → AreBytes xs → prefix_of xs ≡ Body len → (xs ≡ 1 ∷ to_le_bytes w32 len) × (len ≤ 65536)
prefix_spells [] len five all is = absurd (cc)
prefix_spells (x ∷ xs) len five all is = by (x == 1) (nat_lt (length xs) 4) (nat_lt 65536 (from_le_bytes w32 xs)) refl refl refl is
  where
    by : (a b c : Bool) → (x == 1) ≡ a → nat_lt (length xs) 4 ≡ b → nat_lt 65536 (from_le_bytes w32 xs) ≡ c → (if not a then Shut else (if b then Cut else (if c then TooLong else Body (from_le_bytes w32 xs)))) ≡ Body len → (x ∷ xs ≡ 1 ∷ to_le_bytes w32 len) × (len ≤ 65536)
    by false b c one test small e = absurd (cc)
    by true true c one test small e = absurd (cc)
    by true false true one test small e = absurd (cc)
    by true false false one test small e =
        let is_len : from_le_bytes w32 xs ≡ len = cc in
        let few : from_le_bytes w32 xs ≤ 65536 = grind (arith, nat_tests) in
        let gate : x ≡ 1 = grind (arith, nat_tests) in
        let enough : 4 ≤ length xs = grind (arith, nat_tests) in
        let four : length xs ≡ 4 = omega (arith, five, enough) in
        let field : to_le_bytes w32 len ≡ xs = le_bytes_4 xs len four (λ i. all (suc i)) (sym is_len) in
        (ap (λ (g : ℕ). g ∷ xs) gate ∙ ap (λ (l : List ℕ). 1 ∷ l) (sym field), subst (λ (n : ℕ). n ≤ 65536) is_len few)

-- the bytes up to the closed gate spell the records from a gate on
pub record Spells (bytes : List ℕ) (at e : ℕ) (entries : List Entry) : Type 0 where
  pub front : take e bytes ≡ take at bytes ++ spelled (bodies_of entries)
  pub short : AreShort (bodies_of entries)
  pub gates : entries ≡ entries_from at (bodies_of entries)

spells_body : (bytes : List ℕ) (at e len : ℕ) (r : Reading) (entries : List Entry) → AreBytes bytes → prefix_of (piece bytes at 5) ≡ Body len
    → ((es : List Entry) → r ≡ closed es e → Spells bytes (at + 5 + len) e es)
    → (b : Bool) → nat_lt (length (piece bytes (at + 5) len)) len ≡ b
    → (if b then ended (Broken (length bytes)) else following (record { gate = at; body = piece bytes (at + 5) len } ∷ []) r) ≡ closed entries e → Spells bytes at e entries
spells_body bytes at e len r entries all pre rec true test is = absurd (not_closed (length bytes) e entries is)
spells_body bytes at e len r entries all pre rec false test is =
    let body = piece bytes (at + 5) len in
    let first : Entry = record { gate = at; body = body } in
    let whole : first ∷ r.entries ≡ entries = ap (λ (x : Reading). x.entries) is in
    let last : r.ending ≡ Closed e = ap (λ (x : Reading). x.ending) is in
    let u = rec r.entries (ap (λ (x : Ending). record { entries = r.entries; ending = x }) last) in
    let p = prefix_spells (piece bytes at 5) len (omega (arith, length-take 5 (drop at bytes))) (piece_bytes bytes at 5 all) pre in
    let enough : len ≤ length body = grind (arith, nat_tests) in
    let long : length body ≡ len = omega (arith, enough, length-take len (drop (at + 5) bytes)) in
    let field : to_le_bytes w32 len ++ body ≡ measured body = ap (λ (n : ℕ). to_le_bytes w32 n ++ body) (sym long) in
    let here : take (at + 5 + len) bytes ≡ take at bytes ++ (1 ∷ measured body) =
    take-add (at + 5) len bytes
    ∙ ap (λ (l : List ℕ). l ++ body) (take-add at 5 bytes ∙ ap (λ (l : List ℕ). take at bytes ++ l) p.0)
    ∙ append_assoc (take at bytes) (1 ∷ to_le_bytes w32 len) body
    ∙ ap (λ (l : List ℕ). take at bytes ++ (1 ∷ l)) field in
    let made : Spells bytes at e (first ∷ r.entries) = record {
      front = u.front ∙ ap (λ (l : List ℕ). l ++ spelled (bodies_of r.entries)) here ∙ append_assoc (take at bytes) (1 ∷ measured body) (spelled (bodies_of r.entries));
      short = (subst (λ (n : ℕ). n ≤ 65536) (sym long) p.1, u.short);
      gates = ap (λ (l : List Entry). first ∷ l) (u.gates ∙ ap (λ (n : ℕ). entries_from (at + 5 + n) (bodies_of r.entries)) (sym long));
    } in
    subst (λ (l : List Entry). Spells bytes at e l) whole made

spells_by : (most : ℕ) (bytes : List ℕ) (at e : ℕ) (entries : List Entry) → AreBytes bytes
    → ((at : ℕ) (es : List Entry) → reading_within most bytes at ≡ closed es e → Spells bytes at e es)
    → (p : Prefix) → prefix_of (piece bytes at 5) ≡ p → read_by p bytes at (reading_within most bytes) ≡ closed entries e → Spells bytes at e entries
spells_by most bytes at e entries all rec Shut pre is =
    let none : [] ≡ entries = ap (λ (x : Reading). x.entries) is in
    let ends : Closed at ≡ Closed e = ap (λ (x : Reading). x.ending) is in
    let here : at ≡ e = cc in
    subst (λ (l : List Entry). Spells bytes at e l) none (record { front = ap (λ (n : ℕ). take n bytes) (sym here) ∙ sym (append-nil (take at bytes)); short = tt; gates = refl })
spells_by most bytes at e entries all rec Cut pre is = absurd (not_closed (length bytes) e entries is)
spells_by most bytes at e entries all rec TooLong pre is = absurd (not_closed (at + 1) e entries is)
spells_by most bytes at e entries all rec (Body len) pre is =
    spells_body bytes at e len (reading_within most bytes (at + 5 + len)) entries all pre (λ es. rec (at + 5 + len) es) (nat_lt (length (piece bytes (at + 5) len)) len) refl is

pub spells : (most : ℕ) (bytes : List ℕ) (at e : ℕ) (entries : List Entry) → AreBytes bytes → reading_within most bytes at ≡ closed entries e → Spells bytes at e entries
spells zero bytes at e entries all is = absurd (not_closed (length bytes) e entries is)
spells (suc most) bytes at e entries all is = spells_by most bytes at e entries all (λ a es. spells most bytes a e es all) (prefix_of (piece bytes at 5)) refl is

-- a live log of form 1 that is read as these records, and closed behind them, spells them
pub read_records : (bytes generation : List ℕ) (entries : List Entry) (e : ℕ) → AreBytes bytes → take 10 bytes ≡ 1 ∷ 1 ∷ generation → length generation ≡ 8 → reading_at bytes 10 ≡ closed entries e → HasRecords (Some bytes) (bodies_of entries)
read_records bytes generation entries e all head long is =
    let u = upto (length bytes) bytes 10 e entries is in
    let s = spells (length bytes) bytes 10 e entries all is in
    record {
      generation = generation;
      gate = get_or bytes e 0;
      rest = drop (suc e) bytes;
      spells = ap (λ (l : List ℕ). Some l)
          (sym (take-append-drop e bytes) ∙ ap (λ (l : List ℕ). take e bytes ++ l) (drop-cons bytes e 0 u.there)
          ∙ ap (λ (l : List ℕ). l ++ get_or bytes e 0 ∷ drop (suc e) bytes) (s.front ∙ ap (λ (l : List ℕ). l ++ spelled (bodies_of entries)) head));
      long = long;
      short = s.short;
      shut = u.shut;
    }
