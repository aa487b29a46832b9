-- The record of a topology is read as it was spelled.
use Rattle.std.proofs.Common.{◌≡◌, ℕ, zero, suc, ◌^◌, ◌<◌, true, eqb, List, [], ◌∷◌, ◌++◌, length, take, drop, refl, ◌∙◌, ap, arith, length-append, append_assoc}
use Rattle.std.specs.Prelude.{Option, Some}
use Rattle.std.specs.Int.{w32, w64, to_le_bytes, from_le_bytes}
use Rattle.std.proofs.lemmas.Bool.{eq-eqb}
use Rattle.std.proofs.lemmas.Nat.{from_le_bytes-to_le_bytes_4, from_le_bytes-to_le_bytes_8}
use Rattle.cm_base.specs.declared.hash.Hash.{Hash}
use Rattle.cm_notes.specs.declared.note.Note.{Note}
use Rattle.cm_notes.specs.declared.note.Note.TheVariants as note
use Rattle.cm_notes.specs.Notes.{IsNote, spelled}
use Rattle.cm_notes.specs.Reading.{read_note, read_topology}

take_front : (n : ℕ) (xs ys : List ℕ) → length xs ≡ n → take n (xs ++ ys) ≡ xs
take_front zero [] ys e = refl
take_front (suc n) [] ys e = absurd (omega arith)
take_front zero (x ∷ xs) ys e = absurd (omega arith)
take_front (suc n) (x ∷ xs) ys e = ap (λ t. x ∷ t) (take_front n xs ys (omega arith))

drop_front : (n : ℕ) (xs ys : List ℕ) → length xs ≡ n → drop n (xs ++ ys) ≡ ys
drop_front zero [] ys e = refl
drop_front (suc n) [] ys e = absurd (omega arith)
drop_front zero (x ∷ xs) ys e = absurd (omega arith)
drop_front (suc n) (x ∷ xs) ys e = drop_front n xs ys (omega arith)

-- the four fields of 48 bytes
abbrev fields_of : ℕ → ℕ → Hash → ℕ → List ℕ
fields_of number size hash minute = to_le_bytes w32 number ++ (to_le_bytes w32 size ++ (hash.0 ++ to_le_bytes w64 minute))

joined : (N S H M : List ℕ) → ((N ++ S) ++ H) ++ M ≡ N ++ (S ++ (H ++ M))
joined N S H M = simp append_assoc

fields_length : (number size : ℕ) (hash : Hash) (minute : ℕ) → length hash.0 ≡ 32 → length (fields_of number size hash minute) ≡ 48
fields_length number size hash minute l = omega (arith, length-append hash.0 (to_le_bytes w64 minute))

topology_of : (a b : ℕ) (c : Hash) (d number size : ℕ) (hash : Hash) (minute : ℕ) → a ≡ number → b ≡ size → c ≡ hash → d ≡ minute
    → (let o : Option Note = Some (note.Topology a b c d) in o) ≡ Some (note.Topology number size hash minute)
topology_of a b c d number size hash minute p q r s = rw (p, q, r, s)

read_fields : (number size : ℕ) (hash : Hash) (minute : ℕ) → number < 2 ^ 32 → size < 2 ^ 32 → length hash.0 ≡ 32 → minute < 2 ^ 64
    → read_topology (fields_of number size hash minute) ≡ Some (note.Topology number size hash minute)
read_fields number size hash minute n s l m =
    let long : eqb (length (fields_of number size hash minute)) 48 ≡ true = eq-eqb _ 48 (fields_length number size hash minute l) in
    rw long (topology_of _ _ _ _ number size hash minute
    (from_le_bytes-to_le_bytes_4 number n)
    (from_le_bytes-to_le_bytes_4 size s)
    (ap (λ (t : List ℕ). let h : Hash = record { 0 = t } in h) (take_front 32 hash.0 (to_le_bytes w64 minute) l))
    (ap (λ t. from_le_bytes w64 (take 8 t)) (drop_front 32 hash.0 (to_le_bytes w64 minute) l) ∙ from_le_bytes-to_le_bytes_8 minute m))

-- The record of a topology is read as it was spelled.
pub topology_read : (number size : ℕ) (hash : Hash) (minute : ℕ) → IsNote (note.Topology number size hash minute)
    → read_note (spelled (note.Topology number size hash minute)) ≡ Some (note.Topology number size hash minute)
topology_read number size hash minute is =
    ap (λ t. read_note (1 ∷ t)) (joined (to_le_bytes w32 number) (to_le_bytes w32 size) hash.0 (to_le_bytes w64 minute))
    ∙ read_fields number size hash minute is.0 is.1 is.2 is.3
