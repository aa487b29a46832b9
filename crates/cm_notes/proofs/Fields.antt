-- The fields of records: what is written is read, and what is read was written.
use Rattle.std.proofs.Common.{◌≡◌, ℕ, suc, zero, ◌+◌, ◌^◌, ◌<◌, ◌≤◌, Bool, true, false, cond, ◌&&◌, ◌==◌, eqb, leb, List, [], ◌∷◌, ◌++◌, length, take, drop, refl, ap, sym, ◌∙◌, subst, arith, Option, Some, None, append_assoc, length-append, take-append-drop, length-drop, length-take-le}
use Rattle.std.specs.Int.{w32, to_le_bytes, from_le_bytes}
use Rattle.std.proofs.lemmas.Bool.{and_parts, eqb-true, eq-eqb, leb-true, le-leb, cond_both}
use Rattle.std.proofs.lemmas.Nat.{from_le_bytes-to_le_bytes_4}
use Rattle.cm_base.specs.Names.{is_package_id, is_folded_name, text_if}
use Rattle.cm_pkglib.specs.Changes.{AreBytes, IsVersion, version_at, package_at, number_4}
use Rattle.cm_notes.specs.declared.note.Note.{Note}
use Rattle.cm_notes.specs.Notes.{IsContent}
use Rattle.cm_notes.specs.Reading.{behind_text, of_content, content_of, of_point}
use Rattle.cm_notes.proofs.Pieces.{take_front, drop_front, take_whole, behind_8, piece, piece_length, bytes_drop, number_is_4, number_below_4, taken, taken_inv}

-- a package id has eight bytes
pub id_length : (id : List ℕ) → is_package_id id ≡ true → length id ≡ 8
id_length id h = eqb-true (length id) 8 (and_parts _ _ (and_parts _ _ h).0).0

package_of_text : (at : ℕ) (fields id : List ℕ) → take 8 (drop at fields) ≡ id → is_package_id id ≡ true → package_at at fields ≡ Some id
unfolding package_at
package_of_text at fields id e h = rw (e, h)

both : (note : List ℕ → ℕ → Note) (a : Option (List ℕ)) (b : Option ℕ) (id : List ℕ) (version : ℕ) → a ≡ Some id → b ≡ Some version → of_content note a b ≡ Some (note id version)
both note a b id version p q = rw (p, q)

-- a package and a version that are written are read
pub content_read : (note : List ℕ → ℕ → Note) (id : List ℕ) (version : ℕ) (rest : List ℕ) → IsContent id version → of_content note (package_at 0 (id ++ (to_le_bytes w32 version ++ rest))) (version_at 8 (id ++ (to_le_bytes w32 version ++ rest))) ≡ Some (note id version)
content_read note id version rest h =
    let l = id_length id h.0 in
    let behind = to_le_bytes w32 version ++ rest in
    both note _ _ id version
    (package_of_text 0 (id ++ behind) id (take_front 8 id behind l) h.0)
    (ap (λ n. cond (leb 1 n) (Some n) None) (ap (λ t. from_le_bytes w32 (take 4 t)) (behind_8 0 id behind l) ∙ from_le_bytes-to_le_bytes_4 version h.1.1) ∙ taken version h.1.0)

pub content_length : (id : List ℕ) (version : ℕ) (rest : List ℕ) → IsContent id version → length (id ++ (to_le_bytes w32 version ++ rest)) ≡ 12 + length rest
content_length id version rest h = omega (arith, length-append id (to_le_bytes w32 version ++ rest), id_length id h.0)

-- a text that is written is read
pub text_read : (is_form : List ℕ → Bool) (says : List ℕ → List ℕ → Option Note) (text rest : List ℕ) → is_form text ≡ true → behind_text is_form says (length text ∷ (text ++ rest)) ≡ says text rest
text_read is_form says text rest h =
    let fits : leb (length text) (length (text ++ rest)) ≡ true = le-leb _ _ (omega (arith, length-append text rest)) in
    let front = take_front (length text) text rest refl in
    let back = drop_front (length text) text rest refl in
    rw (fits, front, back, h)

pub point_read : (count : ℕ) (note : List ℕ → List ℕ → List ℕ → ℕ → Note) (point id : List ℕ) (version : ℕ) (rest : List ℕ) → is_folded_name point ≡ true → IsContent id version → 12 + length rest ≡ count → of_point count note (length point ∷ (point ++ (id ++ (to_le_bytes w32 version ++ rest)))) ≡ Some (note point (id ++ (to_le_bytes w32 version ++ rest)) id version)
point_read count note point id version rest p h l =
    let bytes = id ++ (to_le_bytes w32 version ++ rest) in
    let whole : eqb (length bytes) count ≡ true = eq-eqb _ count (content_length id version rest h ∙ l) in
    text_read is_folded_name (λ name behind. content_of count (note name behind) behind) point bytes p
    ∙ ap (λ b. cond b (of_content (note point bytes) (package_at 0 bytes) (version_at 8 bytes)) None) whole
    ∙ content_read (note point bytes) id version rest h

-- a text that is read
pub record HasText (is_form : List ℕ → Bool) (says : List ℕ → List ℕ → Option Note) (bytes : List ℕ) (note : Note) : Type 0 where
  pub text : List ℕ
  pub rest : List ℕ
  pub form : is_form text ≡ true
  pub is : bytes ≡ length text ∷ (text ++ rest)
  pub are_bytes : AreBytes rest
  pub said : says text rest ≡ Some note

pub text_inv : (is_form : List ℕ → Bool) (says : List ℕ → List ℕ → Option Note) (bytes : List ℕ) (note : Note) → AreBytes bytes → behind_text is_form says bytes ≡ Some note → HasText is_form says bytes note
text_inv is_form says [] note h e = absurd (cc)
text_inv is_form says (count ∷ bytes) note h e =
    cond_both (leb count (length bytes) && is_form (take count bytes)) (says (take count bytes) (drop count bytes)) None (λ o. o ≡ Some note → HasText is_form says (count ∷ bytes) note)
    (λ t q.
    let tests = and_parts _ _ t in
    let l : length (take count bytes) ≡ count = length-take-le count bytes (leb-true count (length bytes) tests.0) in
    record {
      text = take count bytes;
      rest = drop count bytes;
      form = tests.1;
      is = ap (λ n. n ∷ bytes) (sym l) ∙ ap (λ t. length (take count bytes) ∷ t) (sym (take-append-drop count bytes));
      are_bytes = bytes_drop count bytes (λ i. h (suc i));
      said = q;
    })
    (λ f q. absurd (cc))
    e

-- a package and a version that are read
pub record HasContent (said : List ℕ → ℕ → Note) (bytes : List ℕ) (note : Note) : Type 0 where
  pub id : List ℕ
  pub version : ℕ
  pub form : IsContent id version
  pub is : bytes ≡ id ++ (to_le_bytes w32 version ++ drop 12 bytes)
  pub gives : said id version ≡ note

both_inv : (said : List ℕ → ℕ → Note) (a : Option (List ℕ)) (b : Option ℕ) (note : Note) → of_content said a b ≡ Some note → (id : List ℕ) × (version : ℕ) × (a ≡ Some id) × (b ≡ Some version) × (said id version ≡ note)
both_inv said (Some id) (Some version) note e = (id, version, refl, refl, cc)
both_inv said (Some id) None note e = absurd (cc)
both_inv said None b note e = absurd (cc)

text_if_inv : (test : Bool) (text id : List ℕ) → text_if test text ≡ Some id → (test ≡ true) × (text ≡ id)
text_if_inv true text id e = (refl, cc)
text_if_inv false text id e = absurd (cc)

package_inv : (at : ℕ) (fields id : List ℕ) → package_at at fields ≡ Some id → (take 8 (drop at fields) ≡ id) × (is_package_id id ≡ true)
unfolding package_at
package_inv at fields id e =
    let parts = text_if_inv (is_package_id (take 8 (drop at fields))) (take 8 (drop at fields)) id e in
    (parts.1, subst (λ t. is_package_id t ≡ true) parts.1 parts.0)

version_inv : (at : ℕ) (fields : List ℕ) (version : ℕ) → AreBytes fields → at + 4 ≤ length fields → version_at at fields ≡ Some version → (to_le_bytes w32 version ≡ take 4 (drop at fields)) × IsVersion version
version_inv at fields version h l e =
    let parts = taken_inv (number_4 at fields) version e in
    (ap (λ n. to_le_bytes w32 n) (sym parts.0) ∙ number_is_4 at fields h l, (parts.1, subst (λ n. n < 2 ^ 32) parts.0 (number_below_4 at fields h)))

pub content_inv : (said : List ℕ → ℕ → Note) (bytes : List ℕ) (note : Note) → AreBytes bytes → 12 ≤ length bytes → of_content said (package_at 0 bytes) (version_at 8 bytes) ≡ Some note → HasContent said bytes note
content_inv said bytes note h l e =
    let o = both_inv said (package_at 0 bytes) (version_at 8 bytes) note e in
    let p = package_inv 0 bytes o.0 o.2 in
    let v = version_inv 8 bytes o.1 h (omega arith) o.3 in
    record {
      id = o.0;
      version = o.1;
      form = (p.1, v.1);
      is =
          piece 8 0 8 bytes refl ∙ ap (λ t. take 8 (drop 0 bytes) ++ t) (piece 4 8 12 bytes refl)
          ∙ ap (λ t. t ++ (take 4 (drop 8 bytes) ++ drop 12 bytes)) p.0
          ∙ ap (λ t. o.0 ++ (t ++ drop 12 bytes)) (sym v.0);
      gives = o.4;
    }

-- a package and a version in front of so many bytes that are read
pub content_of_inv : (count : ℕ) (said : List ℕ → ℕ → Note) (bytes : List ℕ) (note : Note) → 12 ≤ count → AreBytes bytes → content_of count said bytes ≡ Some note → (length bytes ≡ count) × HasContent said bytes note
content_of_inv count said bytes note m h e =
    cond_both (eqb (length bytes) count) (of_content said (package_at 0 bytes) (version_at 8 bytes)) None (λ o. o ≡ Some note → (length bytes ≡ count) × HasContent said bytes note)
    (λ t q. let l : length bytes ≡ count = eqb-true (length bytes) count t in (l, content_inv said bytes note h (omega arith) q))
    (λ f q. absurd (cc))
    e

-- a name, a package, a version and so many bytes that are read
pub record HasPoint (count : ℕ) (said : List ℕ → List ℕ → List ℕ → ℕ → Note) (bytes : List ℕ) (note : Note) : Type 0 where
  pub point : List ℕ
  pub id : List ℕ
  pub version : ℕ
  pub rest : List ℕ
  pub folded : is_folded_name point ≡ true
  pub form : IsContent id version
  pub is : bytes ≡ length point ∷ (point ++ (id ++ (to_le_bytes w32 version ++ rest)))
  pub fits : 12 + length rest ≡ count
  pub are_bytes : AreBytes rest
  pub gives : said point (id ++ (to_le_bytes w32 version ++ rest)) id version ≡ note

pub point_inv : (count : ℕ) (said : List ℕ → List ℕ → List ℕ → ℕ → Note) (bytes : List ℕ) (note : Note) → 12 ≤ count → AreBytes bytes → of_point count said bytes ≡ Some note → HasPoint count said bytes note
point_inv count said bytes note m h e =
    let t = text_inv is_folded_name (λ name behind. content_of count (said name behind) behind) bytes note h e in
    let o = content_of_inv count (said t.text t.rest) t.rest note m t.are_bytes t.said in
    let c = o.1 in
    let l : length (drop 12 t.rest) + 12 ≡ count = omega (arith, length-drop 12 t.rest, o.0) in
    record {
      point = t.text;
      id = c.id;
      version = c.version;
      rest = drop 12 t.rest;
      folded = t.form;
      form = c.form;
      is = t.is ∙ ap (λ r. length t.text ∷ (t.text ++ r)) c.is;
      fits = omega arith;
      are_bytes = bytes_drop 12 t.rest t.are_bytes;
      gives = subst (λ r. said t.text r c.id c.version ≡ note) c.is c.gives;
    }
