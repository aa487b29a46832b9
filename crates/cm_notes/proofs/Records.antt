-- The spellings of notes.
use Rattle.std.proofs.Common.{◌≡◌, ℕ, suc, zero, ◌+◌, ◌^◌, ◌<◌, ◌≤◌, Bool, true, false, cond, ◌&&◌, ◌==◌, eqb, leb, List, [], ◌∷◌, ◌++◌, length, take, drop, get_or, refl, ap, sym, ◌∙◌, subst, arith, Option, Some, None, append_assoc, length-append, length-drop, IfSome}
use Rattle.std.proofs.lemmas.List.{nil_from_length, append-nil, get_or-append-add}
use Rattle.std.specs.Int.{w16, w32, w64, to_le_bytes, from_le_bytes}
use Rattle.std.proofs.lemmas.Bool.{and_parts, eqb-true, eq-eqb, leb-true, cond_both}
use Rattle.std.proofs.lemmas.Nat.{from_le_bytes-to_le_bytes_2, from_le_bytes-to_le_bytes_4, from_le_bytes-to_le_bytes_8, le_bytes_2, le_bytes_8}
use Rattle.cm_base.specs.Names.{is_package_id, is_folded_name, is_label}
use Rattle.cm_base.specs.declared.hash.Hash.{Hash}
use Rattle.cm_pkglib.specs.Changes.{AreBytes, number_4, number_8, version_at, package_at, hash_at}
use Rattle.cm_notes.specs.declared.note.Note.{Note}
use Rattle.cm_notes.specs.declared.note.Note.TheVariants.{Topology, Sent, Installed, Tried, Leaving, Gone, Deleted, PeerState, Cached}
use Rattle.cm_notes.specs.declared.to.To.{To}
use Rattle.cm_notes.specs.declared.to.To.TheVariants.{Point, Group}
use Rattle.cm_notes.specs.Notes.{spelled, to_fields, bit, IsContent, IsTo, IsNote, IsRecord}
use Rattle.cm_notes.specs.Reading.{number_2, behind_text, of_content, content_of, of_point, read_topology, sent_to, receiver_of, read_sent, peer_state, read_note}
use Rattle.cm_notes.proofs.Pieces.{take_front, drop_front, take_whole, behind_8, piece, piece_length, bytes_drop, bytes_take, number_fits_2, number_fits_8, number_below_4, number_below_8, number_is_4, number_is_8}
use Rattle.cm_notes.proofs.Fields.{id_length, content_read, content_length, text_read, point_read, HasText, text_inv, HasContent, content_inv, content_of_inv, HasPoint, point_inv}

-- The fields behind the kind, each list bracketed to the right.
abbrev topology_fields : ℕ → ℕ → Hash → ℕ → List ℕ
topology_fields number size hash minute = to_le_bytes w32 number ++ (to_le_bytes w32 size ++ (hash.0 ++ to_le_bytes w64 minute))

abbrev sent_fields : List ℕ → ℕ → To → List ℕ → List ℕ
sent_fields id version to rest = id ++ (to_le_bytes w32 version ++ (to_fields to ++ rest))

abbrev point_fields : List ℕ → List ℕ → ℕ → List ℕ → List ℕ
point_fields point id version rest = length point ∷ (point ++ (id ++ (to_le_bytes w32 version ++ rest)))

abbrev state_fields : Bool → ℕ → ℕ → ℕ → List ℕ
state_fields low load queue used = bit low ∷ (load ∷ (to_le_bytes w16 queue ++ to_le_bytes w16 used))

four : (a b c d : List ℕ) → ((a ++ b) ++ c) ++ d ≡ a ++ (b ++ (c ++ d))
four a b c d = simp append_assoc

three : (a b c : List ℕ) → (a ++ b) ++ c ≡ a ++ (b ++ c)
three a b c = simp append_assoc

outer : (a b c d : List ℕ) → (a ++ (b ++ c)) ++ d ≡ a ++ (b ++ (c ++ d))
outer a b c d = simp append_assoc

spelled_topology : (number size : ℕ) (hash : Hash) (minute : ℕ) → spelled (Topology number size hash minute) ≡ 1 ∷ topology_fields number size hash minute
spelled_topology number size hash minute = refl

spelled_sent : (id : List ℕ) (version : ℕ) (to : To) (minute : ℕ) → spelled (Sent id version to minute) ≡ 2 ∷ sent_fields id version to (to_le_bytes w64 minute)
spelled_sent id version to minute = ap (λ t. 2 ∷ t) (four id (to_le_bytes w32 version) (to_fields to) (to_le_bytes w64 minute))

spelled_tried : (point id : List ℕ) (version due : ℕ) → spelled (Tried point id version due) ≡ 4 ∷ point_fields point id version (to_le_bytes w64 due)
spelled_tried point id version due = ap (λ t. 4 ∷ (length point ∷ t)) (outer point id (to_le_bytes w32 version) (to_le_bytes w64 due))

spelled_state : (name : List ℕ) (low : Bool) (load queue used : ℕ) → spelled (PeerState name low load queue used) ≡ 8 ∷ (length name ∷ (name ++ state_fields low load queue used))
spelled_state name low load queue used = ap (λ t. 8 ∷ (length name ∷ t)) (three name (bit low ∷ (load ∷ to_le_bytes w16 queue)) (to_le_bytes w16 used))

spelled_cached : (name id : List ℕ) (version : ℕ) (hash : Hash) → spelled (Cached name id version hash) ≡ 9 ∷ point_fields name id version hash.0
spelled_cached name id version hash = ap (λ t. 9 ∷ (length name ∷ t)) (outer name id (to_le_bytes w32 version) hash.0)

-- What is written is read.
abbrev hash_of : List ℕ → Hash
hash_of digest = record { 0 = digest }

topology_of : (a b : ℕ) (c : Hash) (d number size : ℕ) (hash : Hash) (minute : ℕ) → a ≡ number → b ≡ size → c ≡ hash → d ≡ minute → Some (Topology a b c d) ≡ Some (Topology number size hash minute)
topology_of a b c d number size hash minute p q r s = rw (p, q, r, s)

topology_length : (number size : ℕ) (hash : Hash) (minute : ℕ) → length hash.0 ≡ 32 → length (topology_fields number size hash minute) ≡ 48
topology_length number size hash minute h = omega (arith, length-append hash.0 (to_le_bytes w64 minute))

topology_read : (number size : ℕ) (hash : Hash) (minute : ℕ) → number < 2 ^ 32 → size < 2 ^ 32 → length hash.0 ≡ 32 → minute < 2 ^ 64 → read_topology (topology_fields number size hash minute) ≡ Some (Topology number size hash minute)
topology_read number size hash minute n s h m =
    let fields = topology_fields number size hash minute in
    let last = to_le_bytes w64 minute in
    ap (λ b. cond b (Some (Topology (number_4 0 fields) (number_4 4 fields) (hash_at 8 fields) (number_8 40 fields))) None) (eq-eqb _ 48 (topology_length number size hash minute h))
    ∙ topology_of _ _ _ _ number size hash minute
    (from_le_bytes-to_le_bytes_4 number n)
    (from_le_bytes-to_le_bytes_4 size s)
    (ap (λ t. hash_of t) (take_front 32 hash.0 last h))
    (ap (λ t. from_le_bytes w64 (take 8 t)) (drop_front 32 hash.0 last h) ∙ from_le_bytes-to_le_bytes_8 minute m)

sent_to_read : (id : List ℕ) (version : ℕ) (to : To) (minute : ℕ) → IsContent id version → minute < 2 ^ 64 → sent_to (sent_fields id version to (to_le_bytes w64 minute)) to (to_le_bytes w64 minute) ≡ Some (Sent id version to minute)
sent_to_read id version to minute c m =
    let last = to_le_bytes w64 minute in
    content_read (λ i v. Sent i v to (number_8 0 last)) id version (to_fields to ++ last) c
    ∙ ap (λ n. Some (Sent id version to n)) (from_le_bytes-to_le_bytes_8 minute m)

receiver_read : (fields : List ℕ) (to : To) (rest : List ℕ) → IsTo to → receiver_of fields (to_fields to ++ rest) ≡ sent_to fields to rest
receiver_read fields (Point name) rest h = text_read is_folded_name (λ n. sent_to fields (Point n)) name rest h
receiver_read fields (Group name) rest h = text_read is_label (λ n. sent_to fields (Group n)) name rest h

sent_read : (id : List ℕ) (version : ℕ) (to : To) (minute : ℕ) → IsContent id version → IsTo to → minute < 2 ^ 64 → read_sent (sent_fields id version to (to_le_bytes w64 minute)) ≡ Some (Sent id version to minute)
sent_read id version to minute c t m =
    let last = to_le_bytes w64 minute in
    let fields = sent_fields id version to last in
    ap (λ r. receiver_of fields r) (behind_8 4 id (to_le_bytes w32 version ++ (to_fields to ++ last)) (id_length id c.0))
    ∙ receiver_read fields to last t
    ∙ sent_to_read id version to minute c m

numbers_read : (name : List ℕ) (low : Bool) (load queue used : ℕ) → queue < 2 ^ 16 → used < 2 ^ 16 → Some (PeerState name low load (from_le_bytes w16 (to_le_bytes w16 queue)) (from_le_bytes w16 (to_le_bytes w16 used))) ≡ Some (PeerState name low load queue used)
numbers_read name low load queue used q u =
    ap (λ n. Some (PeerState name low load n (from_le_bytes w16 (to_le_bytes w16 used)))) (from_le_bytes-to_le_bytes_2 queue q)
    ∙ ap (λ n. Some (PeerState name low load queue n)) (from_le_bytes-to_le_bytes_2 used u)

state_read : (name : List ℕ) (low : Bool) (load queue used : ℕ) → queue < 2 ^ 16 → used < 2 ^ 16 → peer_state name (state_fields low load queue used) ≡ Some (PeerState name low load queue used)
state_read name true load queue used q u = numbers_read name true load queue used q u
state_read name false load queue used q u = numbers_read name false load queue used q u

pub read_spelled : (note : Note) → IsNote note → read_note (spelled note) ≡ Some note
read_spelled (Topology number size hash minute) h = topology_read number size hash minute h.0 h.1 h.2 h.3
read_spelled (Sent id version to minute) h = ap read_note (spelled_sent id version to minute) ∙ sent_read id version to minute h.0 h.1 h.2
read_spelled (Installed point id version) h = point_read 12 (λ p b. Installed p) point id version [] h.0 h.1 refl
read_spelled (Tried point id version due) h =
    let last = to_le_bytes w64 due in
    ap read_note (spelled_tried point id version due)
    ∙ point_read 20 (λ p b i v. Tried p i v (number_8 12 b)) point id version last h.0 h.1 refl
    ∙ ap (λ t. Some (Tried point id version (from_le_bytes w64 (take 8 t)))) (behind_8 4 id (to_le_bytes w32 version ++ last) (id_length id h.1.0))
    ∙ ap (λ n. Some (Tried point id version n)) (from_le_bytes-to_le_bytes_8 due h.2)
read_spelled (Leaving point id version) h = point_read 12 (λ p b. Leaving p) point id version [] h.0 h.1 refl
read_spelled (Gone point id version) h = point_read 12 (λ p b. Gone p) point id version [] h.0 h.1 refl
read_spelled (Deleted id version) h =
    ap (λ b. cond b (of_content Deleted (package_at 0 (id ++ to_le_bytes w32 version)) (version_at 8 (id ++ to_le_bytes w32 version))) None) (eq-eqb (length (id ++ to_le_bytes w32 version)) 12 (content_length id version [] h))
    ∙ content_read Deleted id version [] h
read_spelled (PeerState name low load queue used) h =
    ap read_note (spelled_state name low load queue used)
    ∙ text_read is_folded_name peer_state name (state_fields low load queue used) h.0
    ∙ state_read name low load queue used h.2 h.3
read_spelled (Cached name id version hash) h =
    ap read_note (spelled_cached name id version hash)
    ∙ point_read 44 (λ n b i v. Cached n i v (hash_at 12 b)) name id version hash.0 h.0 h.1 (ap (λ n. 12 + n) h.2)
    ∙ ap (λ t. Some (Cached name id version (hash_of (take 32 t)))) (behind_8 4 id (to_le_bytes w32 version ++ hash.0) (id_length id h.1.0))
    ∙ ap (λ t. Some (Cached name id version (hash_of t))) (take_whole 32 hash.0 h.2)

-- What is read was written.
topology_pieces : (fields : List ℕ) → length fields ≡ 48 → fields ≡ take 4 (drop 0 fields) ++ (take 4 (drop 4 fields) ++ (take 32 (drop 8 fields) ++ take 8 (drop 40 fields)))
topology_pieces fields l =
    let last : drop 40 fields ≡ take 8 (drop 40 fields) = sym (take_whole 8 (drop 40 fields) (omega (arith, length-drop 40 fields))) in
    piece 4 0 4 fields refl
    ∙ ap (λ t. take 4 (drop 0 fields) ++ t) (piece 4 4 8 fields refl
    ∙ ap (λ t. take 4 (drop 4 fields) ++ t) (piece 32 8 40 fields refl
    ∙ ap (λ t. take 32 (drop 8 fields) ++ t) last))

joined : (a a' b b' c d d' : List ℕ) → a ≡ a' → b ≡ b' → d ≡ d' → a ++ (b ++ (c ++ d)) ≡ a' ++ (b' ++ (c ++ d'))
joined a a' b b' c d d' p q r = rw (p, q, r)

topology_record : (fields : List ℕ) → AreBytes fields → length fields ≡ 48 → IsRecord (Topology (number_4 0 fields) (number_4 4 fields) (hash_at 8 fields) (number_8 40 fields)) (1 ∷ fields)
topology_record fields h l = record {
  ranges = (number_below_4 0 fields h, number_below_4 4 fields h, piece_length 32 8 fields (omega arith), number_below_8 40 fields h);
  spelling =
      ap (λ t. 1 ∷ t) (topology_pieces fields l ∙ sym (joined _ _ _ _ (take 32 (drop 8 fields)) _ _ (number_is_4 0 fields h (omega arith)) (number_is_4 4 fields h (omega arith)) (number_is_8 40 fields h (omega arith))))
      ∙ sym (spelled_topology (number_4 0 fields) (number_4 4 fields) (hash_at 8 fields) (number_8 40 fields));
}

topology_sound : (fields : List ℕ) (note : Note) → AreBytes fields → read_topology fields ≡ Some note → IsRecord note (1 ∷ fields)
topology_sound fields note h e =
    cond_both (eqb (length fields) 48) (Some (Topology (number_4 0 fields) (number_4 4 fields) (hash_at 8 fields) (number_8 40 fields))) None (λ o. o ≡ Some note → IsRecord note (1 ∷ fields))
    (λ t q. let is : Topology (number_4 0 fields) (number_4 4 fields) (hash_at 8 fields) (number_8 40 fields) ≡ note = cc in subst (λ n. IsRecord n (1 ∷ fields)) is (topology_record fields h (eqb-true (length fields) 48 t)))
    (λ f q. absurd (cc))
    e

-- a receiver that is read
record HasReceiver (fields bytes : List ℕ) (note : Note) : Type 0 where
  to : To
  rest : List ℕ
  form : IsTo to
  is : bytes ≡ to_fields to ++ rest
  are_bytes : AreBytes rest
  said : sent_to fields to rest ≡ Some note

point_receiver : (fields : List ℕ) (kind : ℕ) (bytes : List ℕ) (note : Note) → AreBytes bytes → eqb kind 0 ≡ true → behind_text is_folded_name (λ name. sent_to fields (Point name)) bytes ≡ Some note → HasReceiver fields (kind ∷ bytes) note
point_receiver fields kind bytes note h k e =
    let t = text_inv is_folded_name (λ name. sent_to fields (Point name)) bytes note h e in
    record { to = Point t.text; rest = t.rest; form = t.form; is = ap (λ n. n ∷ bytes) (eqb-true kind 0 k) ∙ ap (λ b. 0 ∷ b) t.is; are_bytes = t.are_bytes; said = t.said }

group_receiver : (fields : List ℕ) (kind : ℕ) (bytes : List ℕ) (note : Note) → AreBytes bytes → eqb kind 1 ≡ true → behind_text is_label (λ name. sent_to fields (Group name)) bytes ≡ Some note → HasReceiver fields (kind ∷ bytes) note
group_receiver fields kind bytes note h k e =
    let t = text_inv is_label (λ name. sent_to fields (Group name)) bytes note h e in
    record { to = Group t.text; rest = t.rest; form = t.form; is = ap (λ n. n ∷ bytes) (eqb-true kind 1 k) ∙ ap (λ b. 1 ∷ b) t.is; are_bytes = t.are_bytes; said = t.said }

receiver_inv : (fields bytes : List ℕ) (note : Note) → AreBytes bytes → receiver_of fields bytes ≡ Some note → HasReceiver fields bytes note
receiver_inv fields [] note h e = absurd (cc)
receiver_inv fields (kind ∷ bytes) note h e =
    let P : Option Note → Type 0 = λ o. o ≡ Some note → HasReceiver fields (kind ∷ bytes) note in
    let tail : AreBytes bytes = λ i. h (suc i) in
    cond_both (eqb kind 0) (behind_text is_folded_name (λ name. sent_to fields (Point name)) bytes) _ P
    (λ k q. point_receiver fields kind bytes note tail k q)
    (λ a. cond_both (eqb kind 1) (behind_text is_label (λ name. sent_to fields (Group name)) bytes) None P
    (λ k q. group_receiver fields kind bytes note tail k q)
    (λ b q. absurd (cc)))
    e

record HasSentTo (fields : List ℕ) (to : To) (rest : List ℕ) (note : Note) : Type 0 where
  long : length rest ≡ 8
  said : of_content (λ id version. Sent id version to (number_8 0 rest)) (package_at 0 fields) (version_at 8 fields) ≡ Some note

sent_to_inv : (fields : List ℕ) (to : To) (rest : List ℕ) (note : Note) → sent_to fields to rest ≡ Some note → HasSentTo fields to rest note
sent_to_inv fields to rest note e =
    cond_both (eqb (length rest) 8) (of_content (λ id version. Sent id version to (number_8 0 rest)) (package_at 0 fields) (version_at 8 fields)) None (λ o. o ≡ Some note → HasSentTo fields to rest note)
    (λ t q. record { long = eqb-true (length rest) 8 t; said = q })
    (λ f q. absurd (cc))
    e

-- eight bytes are those of the number in them
eight_is : (rest : List ℕ) → AreBytes rest → length rest ≡ 8 → to_le_bytes w64 (number_8 0 rest) ≡ rest
eight_is rest h l = number_is_8 0 rest h (omega arith) ∙ take_whole 8 rest l

sent_sound : (fields : List ℕ) (note : Note) → AreBytes fields → read_sent fields ≡ Some note → IsRecord note (2 ∷ fields)
sent_sound fields note h e =
    let r = receiver_inv fields (drop 12 fields) note (bytes_drop 12 fields h) e in
    let s = sent_to_inv fields r.to r.rest note r.said in
    let l : length (drop 12 fields) ≡ length (to_fields r.to) + length r.rest = ap length r.is ∙ length-append (to_fields r.to) r.rest in
    let c = content_inv (λ id version. Sent id version r.to (number_8 0 r.rest)) fields note h (omega (arith, length-drop 12 fields, s.long)) s.said in
    subst (λ n. IsRecord n (2 ∷ fields)) c.gives (record {
      ranges = (c.form, r.form, number_below_8 0 r.rest r.are_bytes);
      spelling =
          ap (λ t. 2 ∷ t) (c.is ∙ ap (λ t. c.id ++ (to_le_bytes w32 c.version ++ t)) (r.is ∙ ap (λ t. to_fields r.to ++ t) (sym (eight_is r.rest r.are_bytes s.long))))
          ∙ sym (spelled_sent c.id c.version r.to (number_8 0 r.rest));
    })

-- no more bytes stand behind a package and a version of twelve
none_behind : (rest : List ℕ) → 12 + length rest ≡ 12 → rest ≡ []
none_behind rest l = nil_from_length rest (omega arith)

installed_sound : (fields : List ℕ) (note : Note) → AreBytes fields → of_point 12 (λ point bytes. Installed point) fields ≡ Some note → IsRecord note (3 ∷ fields)
installed_sound fields note h e =
    let p = point_inv 12 (λ point bytes. Installed point) fields note (omega arith) h e in
    subst (λ n. IsRecord n (3 ∷ fields)) p.gives (record {
      ranges = (p.folded, p.form);
      spelling = ap (λ t. 3 ∷ t) (p.is ∙ ap (λ t. point_fields p.point p.id p.version t) (none_behind p.rest p.fits));
    })

leaving_sound : (fields : List ℕ) (note : Note) → AreBytes fields → of_point 12 (λ point bytes. Leaving point) fields ≡ Some note → IsRecord note (5 ∷ fields)
leaving_sound fields note h e =
    let p = point_inv 12 (λ point bytes. Leaving point) fields note (omega arith) h e in
    subst (λ n. IsRecord n (5 ∷ fields)) p.gives (record {
      ranges = (p.folded, p.form);
      spelling = ap (λ t. 5 ∷ t) (p.is ∙ ap (λ t. point_fields p.point p.id p.version t) (none_behind p.rest p.fits));
    })

gone_sound : (fields : List ℕ) (note : Note) → AreBytes fields → of_point 12 (λ point bytes. Gone point) fields ≡ Some note → IsRecord note (6 ∷ fields)
gone_sound fields note h e =
    let p = point_inv 12 (λ point bytes. Gone point) fields note (omega arith) h e in
    subst (λ n. IsRecord n (6 ∷ fields)) p.gives (record {
      ranges = (p.folded, p.form);
      spelling = ap (λ t. 6 ∷ t) (p.is ∙ ap (λ t. point_fields p.point p.id p.version t) (none_behind p.rest p.fits));
    })

tried_sound : (fields : List ℕ) (note : Note) → AreBytes fields → of_point 20 (λ point bytes id version. Tried point id version (number_8 12 bytes)) fields ≡ Some note → IsRecord note (4 ∷ fields)
tried_sound fields note h e =
    let p = point_inv 20 (λ point bytes id version. Tried point id version (number_8 12 bytes)) fields note (omega arith) h e in
    let long : length p.rest ≡ 8 = omega (arith, p.fits) in
    let due : number_8 12 (p.id ++ (to_le_bytes w32 p.version ++ p.rest)) ≡ number_8 0 p.rest = ap (λ t. from_le_bytes w64 (take 8 t)) (behind_8 4 p.id (to_le_bytes w32 p.version ++ p.rest) (id_length p.id p.form.0)) in
    subst (λ n. IsRecord n (4 ∷ fields)) (ap (λ d. Tried p.point p.id p.version d) (sym due) ∙ p.gives) (record {
      ranges = (p.folded, p.form, number_below_8 0 p.rest p.are_bytes);
      spelling =
          ap (λ t. 4 ∷ t) (p.is ∙ ap (λ t. point_fields p.point p.id p.version t) (sym (eight_is p.rest p.are_bytes long)))
          ∙ sym (spelled_tried p.point p.id p.version (number_8 0 p.rest));
    })

cached_sound : (fields : List ℕ) (note : Note) → AreBytes fields → of_point 44 (λ name bytes id version. Cached name id version (hash_at 12 bytes)) fields ≡ Some note → IsRecord note (9 ∷ fields)
cached_sound fields note h e =
    let p = point_inv 44 (λ name bytes id version. Cached name id version (hash_at 12 bytes)) fields note (omega arith) h e in
    let long : length p.rest ≡ 32 = omega (arith, p.fits) in
    let digest : hash_at 12 (p.id ++ (to_le_bytes w32 p.version ++ p.rest)) ≡ hash_of p.rest = ap (λ t. hash_of (take 32 t)) (behind_8 4 p.id (to_le_bytes w32 p.version ++ p.rest) (id_length p.id p.form.0)) ∙ ap (λ t. hash_of t) (take_whole 32 p.rest long) in
    subst (λ n. IsRecord n (9 ∷ fields)) (ap (λ d. Cached p.point p.id p.version d) (sym digest) ∙ p.gives) (record {
      ranges = (p.folded, p.form, long);
      spelling = ap (λ t. 9 ∷ t) p.is ∙ sym (spelled_cached p.point p.id p.version (hash_of p.rest));
    })

deleted_sound : (fields : List ℕ) (note : Note) → AreBytes fields → content_of 12 Deleted fields ≡ Some note → IsRecord note (7 ∷ fields)
deleted_sound fields note h e =
    let o = content_of_inv 12 Deleted fields note (omega arith) h e in
    let c = o.1 in
    let none : drop 12 fields ≡ [] = nil_from_length (drop 12 fields) (omega (arith, length-drop 12 fields, o.0)) in
    subst (λ n. IsRecord n (7 ∷ fields)) c.gives (record {
      ranges = c.form;
      spelling = ap (λ t. 7 ∷ t) (c.is ∙ ap (λ t. c.id ++ (to_le_bytes w32 c.version ++ t)) none);
    })

-- a bit is that of its test
bit_is : (a : ℕ) → a ≤ 1 → bit (eqb a 1) ≡ a
bit_is zero h = refl
bit_is (suc zero) h = refl
bit_is (suc (suc a)) h = absurd (omega arith)

record HasState (name bytes : List ℕ) (note : Note) : Type 0 where
  low : Bool
  load : ℕ
  queue : ℕ
  used : ℕ
  load_fits : load < 2 ^ 8
  queue_fits : queue < 2 ^ 16
  used_fits : used < 2 ^ 16
  is : bytes ≡ state_fields low load queue used
  gives : PeerState name low load queue used ≡ note

state_of_six : (name : List ℕ) (a b c d e f : ℕ) (note : Note) → AreBytes (a ∷ b ∷ c ∷ d ∷ e ∷ f ∷ []) → a ≤ 1 → PeerState name (eqb a 1) b (from_le_bytes w16 (c ∷ d ∷ [])) (from_le_bytes w16 (e ∷ f ∷ [])) ≡ note → HasState name (a ∷ b ∷ c ∷ d ∷ e ∷ f ∷ []) note
state_of_six name a b c d e f note h l g =
    let two : AreBytes (c ∷ d ∷ []) = bytes_take 2 (c ∷ d ∷ e ∷ f ∷ []) (λ i. h (suc (suc i))) in
    let last : AreBytes (e ∷ f ∷ []) = λ i. h (suc (suc (suc (suc i)))) in
    record {
      low = eqb a 1;
      load = b;
      queue = from_le_bytes w16 (c ∷ d ∷ []);
      used = from_le_bytes w16 (e ∷ f ∷ []);
      load_fits = h 1;
      queue_fits = number_fits_2 (c ∷ d ∷ []) two;
      used_fits = number_fits_2 (e ∷ f ∷ []) last;
      is = six (bit_is a l) (le_bytes_2 (c ∷ d ∷ []) (from_le_bytes w16 (c ∷ d ∷ [])) refl two refl) (le_bytes_2 (e ∷ f ∷ []) (from_le_bytes w16 (e ∷ f ∷ [])) refl last refl);
      gives = g;
    }
  where
    six : {x : ℕ} {q u : List ℕ} → x ≡ a → q ≡ c ∷ d ∷ [] → u ≡ e ∷ f ∷ [] → a ∷ b ∷ c ∷ d ∷ e ∷ f ∷ [] ≡ x ∷ (b ∷ (q ++ u))
    six p q r = rw (p, q, r)

state_said : (name bytes : List ℕ) (note : Note) → AreBytes bytes → length bytes ≡ 6 → get_or bytes 0 0 ≤ 1 → PeerState name (eqb (get_or bytes 0 0) 1) (get_or bytes 1 0) (number_2 2 bytes) (number_2 4 bytes) ≡ note → HasState name bytes note
state_said name (a ∷ b ∷ c ∷ d ∷ e ∷ f ∷ []) note h l m g = state_of_six name a b c d e f note h m g
state_said name [] note h l m g = absurd (omega arith)
state_said name (a ∷ []) note h l m g = absurd (omega arith)
state_said name (a ∷ b ∷ []) note h l m g = absurd (omega arith)
state_said name (a ∷ b ∷ c ∷ []) note h l m g = absurd (omega arith)
state_said name (a ∷ b ∷ c ∷ d ∷ []) note h l m g = absurd (omega arith)
state_said name (a ∷ b ∷ c ∷ d ∷ e ∷ []) note h l m g = absurd (omega arith)
state_said name (a ∷ b ∷ c ∷ d ∷ e ∷ f ∷ x ∷ more) note h l m g = absurd (omega arith)

state_inv : (name bytes : List ℕ) (note : Note) → AreBytes bytes → peer_state name bytes ≡ Some note → HasState name bytes note
state_inv name bytes note h e =
    cond_both (eqb (length bytes) 6 && leb (get_or bytes 0 0) 1) (Some (PeerState name (eqb (get_or bytes 0 0) 1) (get_or bytes 1 0) (number_2 2 bytes) (number_2 4 bytes))) None (λ o. o ≡ Some note → HasState name bytes note)
    (λ t q. let tests = and_parts _ _ t in let is : PeerState name (eqb (get_or bytes 0 0) 1) (get_or bytes 1 0) (number_2 2 bytes) (number_2 4 bytes) ≡ note = cc in state_said name bytes note h (eqb-true (length bytes) 6 tests.0) (leb-true (get_or bytes 0 0) 1 tests.1) is)
    (λ f q. absurd (cc))
    e

peer_sound : (fields : List ℕ) (note : Note) → AreBytes fields → behind_text is_folded_name peer_state fields ≡ Some note → IsRecord note (8 ∷ fields)
peer_sound fields note h e =
    let t = text_inv is_folded_name peer_state fields note h e in
    let s = state_inv t.text t.rest note t.are_bytes t.said in
    subst (λ n. IsRecord n (8 ∷ fields)) s.gives (record {
      ranges = (t.form, s.load_fits, s.queue_fits, s.used_fits);
      spelling =
          ap (λ b. 8 ∷ b) (t.is ∙ ap (λ b. length t.text ∷ (t.text ++ b)) s.is)
          ∙ sym (spelled_state t.text s.low s.load s.queue s.used);
    })

-- a record of one kind is that of the kind that was tested
of_kind : (kind n : ℕ) (fields : List ℕ) (note : Note) → eqb kind n ≡ true → IsRecord note (n ∷ fields) → IsRecord note (kind ∷ fields)
of_kind kind n fields note t r = subst (λ k. IsRecord note (k ∷ fields)) (sym (eqb-true kind n t)) r

pub read_sound : (bytes : List ℕ) (note : Note) → AreBytes bytes → read_note bytes ≡ Some note → IsRecord note bytes
read_sound [] note h e = absurd (cc)
read_sound (kind ∷ fields) note h e =
    let P : Option Note → Type 0 = λ o. o ≡ Some note → IsRecord note (kind ∷ fields) in
    let tail : AreBytes fields = λ i. h (suc i) in
    cond_both (eqb kind 1) (read_topology fields) _ P
    (λ t q. of_kind kind 1 fields note t (topology_sound fields note tail q))
    (λ a. cond_both (eqb kind 2) (read_sent fields) _ P
    (λ t q. of_kind kind 2 fields note t (sent_sound fields note tail q))
    (λ b. cond_both (eqb kind 3) (of_point 12 (λ point bytes. Installed point) fields) _ P
    (λ t q. of_kind kind 3 fields note t (installed_sound fields note tail q))
    (λ c. cond_both (eqb kind 4) (of_point 20 (λ point bytes id version. Tried point id version (number_8 12 bytes)) fields) _ P
    (λ t q. of_kind kind 4 fields note t (tried_sound fields note tail q))
    (λ d. cond_both (eqb kind 5) (of_point 12 (λ point bytes. Leaving point) fields) _ P
    (λ t q. of_kind kind 5 fields note t (leaving_sound fields note tail q))
    (λ f. cond_both (eqb kind 6) (of_point 12 (λ point bytes. Gone point) fields) _ P
    (λ t q. of_kind kind 6 fields note t (gone_sound fields note tail q))
    (λ g. cond_both (eqb kind 7) (content_of 12 Deleted fields) _ P
    (λ t q. of_kind kind 7 fields note t (deleted_sound fields note tail q))
    (λ i. cond_both (eqb kind 8) (behind_text is_folded_name peer_state fields) _ P
    (λ t q. of_kind kind 8 fields note t (peer_sound fields note tail q))
    (λ j. cond_both (eqb kind 9) (of_point 44 (λ name bytes id version. Cached name id version (hash_at 12 bytes)) fields) None P
    (λ t q. of_kind kind 9 fields note t (cached_sound fields note tail q))
    (λ k q. absurd (cc))))))))))
    e

pub record_read : (bytes : List ℕ) (note : Note) → IsRecord note bytes → read_note bytes ≡ Some note
record_read bytes note r = ap read_note r.spelling ∙ read_spelled note r.ranges

pub one_note : (a b : Note) (bytes : List ℕ) → IsRecord a bytes → IsRecord b bytes → a ≡ b
one_note a b bytes r s = let p = record_read bytes a r in let q = record_read bytes b s in cc

pub found_record : (bytes : List ℕ) → AreBytes bytes → (o : Option Note) → o ≡ read_note bytes → IfSome o (λ note. IsRecord note bytes)
found_record bytes h None e = tt
found_record bytes h (Some note) e = read_sound bytes note h (sym e)

-- how long a record is, by its kind, the length of a name behind that, and the length of a receiver's name
abbrev kind_length : ℕ → ℕ → ℕ → ℕ
kind_length kind name to = cond (eqb kind 1) 49 (cond (eqb kind 2) (23 + to) (cond (eqb kind 4) (22 + name) (cond (eqb kind 7) 13 (cond (eqb kind 8) (8 + name) (cond (eqb kind 9) (46 + name) (14 + name))))))

-- how long the record in front of the bytes is
abbrev front_length : List ℕ → ℕ
front_length bytes = kind_length (get_or bytes 0 0) (get_or bytes 1 0) (get_or bytes 14 0)

to_length : (to : To) (rest : List ℕ) → length (to_fields to ++ rest) ≡ 2 + get_or (to_fields to ++ rest) 1 0 + length rest
to_length (Point name) rest = omega (arith, length-append name rest)
to_length (Group name) rest = omega (arith, length-append name rest)

shift : (a b c d more : List ℕ) → (a ++ (b ++ (c ++ d))) ++ more ≡ a ++ (b ++ (c ++ (d ++ more)))
shift a b c d more = simp append_assoc

-- the byte 14 of a record of kind 2 is the length of its receiver's name
behind_fields : (id rest : List ℕ) → length id ≡ 8 → get_or (id ++ rest) 13 0 ≡ get_or rest 5 0
behind_fields id rest l = subst (λ n. get_or (id ++ rest) (n + 5) 0 ≡ get_or rest 5 0) l (get_or-append-add id rest 5 0)

-- bytes are as long as the record in front of them, and those behind it
abbrev BeginsRecord : List ℕ → List ℕ → Type 0
BeginsRecord more bytes = length bytes ≡ front_length bytes + length more

sent_begins : (id : List ℕ) (version : ℕ) (to : To) (minute : ℕ) (more : List ℕ) → IsContent id version → BeginsRecord more (2 ∷ sent_fields id version to (to_le_bytes w64 minute ++ more))
sent_begins id version to minute more c =
    let last = to_le_bytes w64 minute ++ more in
    let behind = to_fields to ++ last in
    omega (arith, content_length id version behind c, to_length to last, behind_fields id (to_le_bytes w32 version ++ behind) (id_length id c.0))

begins : (note : Note) (more : List ℕ) → IsNote note → BeginsRecord more (spelled note ++ more)
begins (Topology number size hash minute) more h = omega (arith, h.2, length-append hash.0 (to_le_bytes w64 minute), length-append (hash.0 ++ to_le_bytes w64 minute) more)
begins (Sent id version to minute) more h =
    subst (λ t. BeginsRecord more t)
    (sym (ap (λ t. t ++ more) (spelled_sent id version to minute) ∙ ap (λ t. 2 ∷ t) (shift id (to_le_bytes w32 version) (to_fields to) (to_le_bytes w64 minute) more)))
    (sent_begins id version to minute more h.0)
begins (Installed point id version) more h = omega (arith, id_length id h.1.0, length-append id (to_le_bytes w32 version), length-append point (id ++ to_le_bytes w32 version), length-append (point ++ (id ++ to_le_bytes w32 version)) more)
begins (Tried point id version due) more h =
    let content = id ++ to_le_bytes w32 version in
    omega (arith, id_length id h.1.0, length-append id (to_le_bytes w32 version), length-append point content, length-append (point ++ content) (to_le_bytes w64 due), length-append ((point ++ content) ++ to_le_bytes w64 due) more)
begins (Leaving point id version) more h = omega (arith, id_length id h.1.0, length-append id (to_le_bytes w32 version), length-append point (id ++ to_le_bytes w32 version), length-append (point ++ (id ++ to_le_bytes w32 version)) more)
begins (Gone point id version) more h = omega (arith, id_length id h.1.0, length-append id (to_le_bytes w32 version), length-append point (id ++ to_le_bytes w32 version), length-append (point ++ (id ++ to_le_bytes w32 version)) more)
begins (Deleted id version) more h = omega (arith, id_length id h.0, length-append id (to_le_bytes w32 version), length-append (id ++ to_le_bytes w32 version) more)
begins (PeerState name low load queue used) more h =
    let fields = state_fields low load queue used in
    subst (λ t. BeginsRecord more (t ++ more)) (sym (spelled_state name low load queue used)) (omega (arith, length-append name fields, length-append (name ++ fields) more))
begins (Cached name id version hash) more h =
    let content = id ++ to_le_bytes w32 version in
    omega (arith, id_length id h.1.0, h.2, length-append id (to_le_bytes w32 version), length-append name content, length-append (name ++ content) hash.0, length-append ((name ++ content) ++ hash.0) more)

pub no_prefix : (a b : Note) (bytes more : List ℕ) → IsRecord a bytes → IsRecord b (bytes ++ more) → more ≡ []
no_prefix a b bytes more r s =
    let front : BeginsRecord more (bytes ++ more) = subst (λ t. BeginsRecord more (t ++ more)) (sym r.spelling) (begins a more r.ranges) in
    let whole : BeginsRecord [] (bytes ++ more) = subst (λ t. BeginsRecord [] t) (append-nil (spelled b) ∙ sym s.spelling) (begins b [] s.ranges) in
    nil_from_length more (omega (arith, front, whole))
