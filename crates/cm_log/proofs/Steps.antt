-- What one read of a prefix, and one of a body, tell of the records to come.
use Rattle.std.proofs.Common.{◌≡◌, get_or, ℕ, suc, ◌+◌, ◌<◌, ◌≤◌, Bool, true, false, if◌then◌else◌, nat_lt, ◌==◌, not, List, [], ◌∷◌, ◌++◌, length, take, drop, refl, sym, ◌∙◌, ap, subst, arith, length-drop, length-take, length-take-le}
use Rattle.std.specs.Int.{from_le_bytes, w32}
use Rattle.std.proofs.lemmas.Bool.Decides.{nat_tests}
use Rattle.std.proofs.lemmas.List.{take_min, take_at, take_all, get_or-take, get_or-drop, get_or_past}
use Rattle.cm_disk.specs.Disk.{File, bytes_of, Reads}
use Rattle.cm_log.specs.declared.prefix.Prefix.{Prefix}
use Rattle.cm_log.specs.declared.prefix.Prefix.TheVariants.{Shut, Cut, TooLong, Body}
use Rattle.cm_log.specs.Logs.{Broken, ended, following, piece, prefix_of, with_body, read_by, reading_at}
use Rattle.cm_log.proofs.Readings.{reading_step}

-- the bytes that a read gave are those from there on
pub piece_read : (file : File) (at : ℕ) (buf : List ℕ) (count n : ℕ) → length buf ≡ n → Reads file at buf count → take count buf ≡ piece (bytes_of file) at n
piece_read file at buf count n long r =
    r.bytes
    ∙ ap (λ (k : ℕ). take k (drop at (bytes_of file))) (omega (arith, r.number, long, length-drop at (bytes_of file)))
    ∙ take_min n (drop at (bytes_of file))

prefix_cut : (xs : List ℕ) → prefix_of xs ≡ Cut → length xs < 5
prefix_cut [] is = omega arith
prefix_cut (x ∷ xs) is = by (x == 1) (nat_lt (length xs) 4) (nat_lt 65536 (from_le_bytes w32 xs)) refl is
  where
    by : (a b c : Bool) → nat_lt (length xs) 4 ≡ b → (if not a then Shut else (if b then Cut else (if c then TooLong else Body (from_le_bytes w32 xs)))) ≡ Cut → suc (length xs) < 5
    by false b c test e = absurd (cc)
    by true true c test e = grind (arith, nat_tests)
    by true false true test e = absurd (cc)
    by true false false test e = absurd (cc)

pub prefix_body : (xs : List ℕ) (len : ℕ) → prefix_of xs ≡ Body len → (5 ≤ length xs) × (len ≤ 65536)
prefix_body [] len is = absurd (cc)
prefix_body (x ∷ xs) len is = by (x == 1) (nat_lt (length xs) 4) (nat_lt 65536 (from_le_bytes w32 xs)) refl refl is
  where
    by : (a b c : Bool) → nat_lt (length xs) 4 ≡ b → nat_lt 65536 (from_le_bytes w32 xs) ≡ c → (if not a then Shut else (if b then Cut else (if c then TooLong else Body (from_le_bytes w32 xs)))) ≡ Body len → (5 ≤ suc (length xs)) × (len ≤ 65536)
    by false b c test small e = absurd (cc)
    by true true c test small e = absurd (cc)
    by true false true test small e = absurd (cc)
    by true false false test small e =
        let is_len : from_le_bytes w32 xs ≡ len = cc in
        let few : from_le_bytes w32 xs ≤ 65536 = grind (arith, nat_tests) in
        (grind (arith, nat_tests), subst (λ (n : ℕ). n ≤ 65536) is_len few)

module _ (file : File) (at : ℕ) (start : List ℕ) (count : ℕ) (long : length start ≡ 5) (r : Reads file at start count) where
  pub by_prefix : (p : Prefix) → p ≡ prefix_of (take count start) → reading_at (bytes_of file) at ≡ read_by p (bytes_of file) at (reading_at (bytes_of file))
  by_prefix p is =
      reading_step (bytes_of file) at
      ∙ ap (λ (q : Prefix). read_by q (bytes_of file) at (reading_at (bytes_of file))) (sym (is ∙ ap prefix_of (piece_read file at start count 5 long r)))

  few : count ≤ 5
  few = omega (arith, r.number, long)

  pub cut_step : (p : Prefix) → p ≡ prefix_of (take count start) → p ≡ Cut → at ≤ length (bytes_of file) → reading_at (bytes_of file) at ≡ ended (Broken (at + count))
  cut_step p is cut within =
      let short : length (take count start) < 5 = prefix_cut (take count start) (sym is ∙ cut) in
      by_prefix p is ∙ ap (λ (q : Prefix). read_by q (bytes_of file) at (reading_at (bytes_of file))) cut
      ∙ ap (λ (n : ℕ). ended (Broken n)) (omega (arith, short, r.number, long, within, length-take-le count start (omega (arith, few, long))))

  pub far : (p : Prefix) (len : ℕ) → p ≡ prefix_of (take count start) → p ≡ Body len → (at + 5 ≤ length (bytes_of file)) × (len ≤ 65536)
  far p len is body =
      let h = prefix_body (take count start) len (sym is ∙ body) in
      (omega (arith, h.0, r.number, long, length-take count start), h.1)

  -- with the body read behind it
  module _ (p : Prefix) (len : ℕ) (is : p ≡ prefix_of (take count start)) (body : p ≡ Body len) (buf : List ℕ) (got : ℕ) (whole : length buf ≡ len) (b : Reads file (at + 5) buf got) where
    with_read : reading_at (bytes_of file) at ≡ with_body (bytes_of file) at len (reading_at (bytes_of file) (at + 5 + len))
    with_read = by_prefix p is ∙ ap (λ (q : Prefix). read_by q (bytes_of file) at (reading_at (bytes_of file))) body

    got_few : got ≤ len
    got_few = omega (arith, b.number, whole)

    piece_is : piece (bytes_of file) (at + 5) len ≡ take got buf
    piece_is = sym (piece_read file (at + 5) buf got len whole b)

    piece_long : length (piece (bytes_of file) (at + 5) len) ≡ got
    piece_long = ap (λ (l : List ℕ). length l) piece_is ∙ length-take-le got buf (omega (arith, got_few, whole))

    pub body_cut : got < len → reading_at (bytes_of file) at ≡ ended (Broken (at + 5 + got))
    body_cut less =
        let test : nat_lt got len ≡ true = grind (arith, nat_tests) in
        let size : length (bytes_of file) ≡ at + 5 + got = omega (arith, less, b.number, whole, (far p len is body).0) in
        with_read
        ∙ ap (λ (n : ℕ). if nat_lt n len then ended (Broken (length (bytes_of file))) else following (record { gate = at; body = piece (bytes_of file) (at + 5) len } ∷ []) (reading_at (bytes_of file) (at + 5 + len))) piece_long
        ∙ ap (λ (t : Bool). if t then ended (Broken (length (bytes_of file))) else following (record { gate = at; body = piece (bytes_of file) (at + 5) len } ∷ []) (reading_at (bytes_of file) (at + 5 + len))) test
        ∙ ap (λ (n : ℕ). ended (Broken n)) size

    pub body_whole : len ≤ got → (rest : List ℕ) → reading_at (bytes_of file) at ≡ following (record { gate = at; body = take len (buf ++ rest) } ∷ []) (reading_at (bytes_of file) (at + 5 + len))
    body_whole all rest =
        let test : nat_lt got len ≡ false = grind (arith, nat_tests) in
        let full : got ≡ len = omega (arith, all, got_few) in
        let is_body : piece (bytes_of file) (at + 5) len ≡ take len (buf ++ rest) =
        piece_is ∙ ap (λ (n : ℕ). take n buf) full ∙ (take_all len buf (omega (arith, whole)) ∙ sym (take_at buf rest len whole)) in
        with_read
        ∙ ap (λ (n : ℕ). if nat_lt n len then ended (Broken (length (bytes_of file))) else following (record { gate = at; body = piece (bytes_of file) (at + 5) len } ∷ []) (reading_at (bytes_of file) (at + 5 + len))) piece_long
        ∙ ap (λ (t : Bool). if t then ended (Broken (length (bytes_of file))) else following (record { gate = at; body = piece (bytes_of file) (at + 5) len } ∷ []) (reading_at (bytes_of file) (at + 5 + len))) test
        ∙ ap (λ (l : List ℕ). following (record { gate = at; body = l } ∷ []) (reading_at (bytes_of file) (at + 5 + len))) is_body

    pub body_within : len ≤ got → at + 5 + len ≤ length (bytes_of file)
    body_within all = omega (arith, all, b.number, whole, (far p len is body).0)

-- one byte that was read, or none
pub gate_read : (file : File) (at : ℕ) (buf : List ℕ) (count : ℕ) → length buf ≡ 1 → Reads file at buf count → 1 ≤ count → get_or buf 0 0 ≡ get_or (bytes_of file) at 0
gate_read file at buf count long r some =
    let one : count ≡ 1 = omega (arith, r.number, long, some) in
    let bytes : take 1 buf ≡ take 1 (drop at (bytes_of file)) = ap (λ (k : ℕ). take k buf) (sym one) ∙ r.bytes ∙ ap (λ (k : ℕ). take k (drop at (bytes_of file))) one in
    sym (get_or-take 1 buf 0 0 (omega arith)) ∙ ap (λ (l : List ℕ). get_or l 0 0) bytes ∙ get_or-take 1 (drop at (bytes_of file)) 0 0 (omega arith)
    ∙ get_or-drop at (bytes_of file) 0 0 ∙ ap (λ (i : ℕ). get_or (bytes_of file) i 0) (omega arith)

pub gate_past : (file : File) (at : ℕ) (buf : List ℕ) (count : ℕ) → length buf ≡ 1 → Reads file at buf count → count ≡ 0 → get_or (bytes_of file) at 0 ≡ 0
gate_past file at buf count long r none = get_or_past (bytes_of file) at 0 (omega (arith, r.number, long, none))
