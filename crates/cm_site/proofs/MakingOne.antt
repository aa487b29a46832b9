-- What `init` does to one bay, by what the making of a library or of records tells.
use Rattle.std.proofs.Common.{◌≡◌, ◌≢◌, ◌⊎◌, ℕ, ◌≤◌, Bool, true, false, List, Option, None, Some, inl, inr, refl, sym, ◌∙◌, ap, subst}
use Rattle.std.specs.Prelude.{cond}
use Rattle.std.specs.Option.{ForSome}
use Rattle.std.proofs.lemmas.Bool.{false≢true}
use Rattle.std.proofs.lemmas.Option.{none-some}
use Rattle.cm_base.specs.Causes.{Rose}
use Rattle.cm_disk.specs.Disk.{File, Files, IsImage, LeavesOnly}
use Rattle.cm_disk.proofs.Moments.{weaker}
use Rattle.cm_register.specs.Look.{look as look_records}
use Rattle.cm_state.specs.Adding.{Told}
use Rattle.cm_state.specs.Look.{look}
use Rattle.cm_site.specs.Contents.{Content, OfLibrary, OfRecords, Made, content_after, content_in, gate_of, is_records, ReadsAs, OpensTo}
use Rattle.cm_site.specs.Machine.{is_empty}
use Rattle.cm_site.specs.Making.{IsAsPart, OpensEither, HasMade, StopsMaking}
use Rattle.cm_site.specs.Runs.{Becomes, HasKind, KeepsBy}
use Rattle.cm_site.specs.Worlds.{Part}
use Rattle.cm_site.proofs.Left.{reads_as_in}

-- what a bay is, where its disk tells that
abbrev pub content_or : Content → List ℕ → Option Files → Content
content_or content name None = content
content_or content name (Some files) = content_in name files

abbrev pub gate_or : List ℕ → Option Files → ℕ
gate_or name None = 0
gate_or name (Some files) = gate_of name files

kind_in : (name : List ℕ) (files : Files) → HasKind name (content_in name files)
kind_in name files = by (is_records name) refl
  where
    by : (b : Bool) → is_records name ≡ b → HasKind name (cond b (OfRecords (look_records files)) (OfLibrary (look files)))
    by true is = is
    by false is = is

kind_or : (content : Content) (name : List ℕ) (read : Option Files) → HasKind name content → HasKind name (content_or content name read)
kind_or content name None kind = kind
kind_or content name (Some files) kind = kind_in name files

abbrev pub part_or : {D : Type 0} → (D → Option Files) → Content → List ℕ → D → Part
part_or reads content name disk = record { name = name; content = content_or content name (reads disk); gate = gate_or name (reads disk) }

-- a bay of that kind is some part
pub some_part : {D : Type 0} (reads : D → Option Files) (content : Content) (name : List ℕ) (disk : D) → HasKind name content → IsAsPart reads (part_or reads content name disk) disk
some_part reads content name disk kind = record {
  kind = kind_or content name (reads disk) kind;
  content = λ files told. ap (content_or content name) (sym told);
  gate = λ files told. ap (gate_or name) (sym told);
}

-- it is none, which can be made, and nothing else of its kind can be
module _ {D : Type 0} (reads : D → Option Files) (may_leave : D → List ℕ → File → Type 0) (moment : D → ℕ) (left_since : D → ℕ → Files → Type 0) (name : List ℕ) (none : Content) (kind : HasKind name none) (can : is_empty none ≡ true)
    (old new : D) (places : (content : Content) → HasKind name content → Told (KeepsBy false content) (reads old) (reads new))
    (run : ForSome (reads old) (λ files. LeavesOnly moment left_since old new (λ (left : Files). IsImage (may_leave old) left ⊎ ((content_in name files ≡ none) × (OpensTo none left ⊎ OpensTo (content_after Made none) left))))) where
  -- it was made
  pub has_made : ForSome (reads old) (λ files. content_in name files ≡ none) → Becomes (reads old) (reads new) (content_after Made none)
      → ForSome (reads old) (λ _. (image : Files) → IsImage (may_leave new) image → OpensTo (content_after Made none) image) → HasMade reads may_leave moment left_since true name old new
  has_made was becomes durable = record {
    part = record { name = name; content = none; gate = gate_or name (reads old) };
    named = refl;
    is_so = can;
    whole = record {
      makes = record {
        is = record { kind = kind; content = was; gate = λ files told. ap (gate_or name) (sym told) };
        places = places none kind;
        same = λ not. absurd (false≢true (sym not));
        moments = λ files told. weaker moment left_since old new (λ (left : Files). IsImage (may_leave old) left ⊎ ((content_in name files ≡ none) × (OpensTo none left ⊎ OpensTo (content_after Made none) left)))
            (λ (left : Files). IsImage (may_leave old) left ⊎ OpensEither true none left) (run files told)
            (λ left is. elim is [ inl image ↦ inl image | inr other ↦ inr other.1 ]);
      };
      becomes = becomes;
      leaves = durable;
    };
  }

  module _ (counts : (t : ℕ) (files : Files) → t ≤ moment new → IsImage (may_leave new) files → left_since new t files) where
    image_since : (files : Files) → reads old ≡ Some files → (image : Files) → IsImage (may_leave new) image
        → IsImage (may_leave old) image ⊎ ((content_in name files ≡ none) × (OpensTo none image ⊎ OpensTo (content_after Made none) image))
    image_since files told image left = (run files told).each image (counts (moment old) image (run files told).later left)

    reads_still : (content : Content) → ForSome (reads old) (λ files. content_in name files ≡ content) → reads new ≡ reads old → Becomes (reads old) (reads new) content
    reads_still content is same = λ files told. (files, same ∙ told, subst (λ (c : Content). ReadsAs c files) (is files told) (reads_as_in name files))

    -- there was one
    pub was_there : (some : Content) → HasKind name some → is_empty some ≡ false → ((files : Files) → content_in name files ≢ none → is_empty (content_in name files) ≡ false)
        → ForSome (reads old) (λ files. content_in name files ≢ none) → reads new ≡ reads old → HasMade reads may_leave moment left_since false name old new
    was_there some kind_some full others there same = record {
      part = part_or reads some name old;
      named = refl;
      is_so = by (reads old) refl;
      whole = record {
        makes = record {
          is = is;
          places = places (part_or reads some name old).content is.kind;
          same = λ not. same;
          moments = λ files told. weaker moment left_since old new (λ (left : Files). IsImage (may_leave old) left ⊎ ((content_in name files ≡ none) × (OpensTo none left ⊎ OpensTo (content_after Made none) left)))
              (λ (left : Files). IsImage (may_leave old) left ⊎ ⊥) (run files told)
              (λ left was. elim was [ inl image ↦ inl image | inr other ↦ absurd (there files told other.0) ]);
        };
        becomes = reads_still (part_or reads some name old).content is.content same;
        leaves = λ files told image left. elim (image_since files told image left) [ inl image ↦ image | inr other ↦ absurd (there files told other.0) ];
      };
    }
      where
        is : IsAsPart reads (part_or reads some name old) old
        is = some_part reads some name old kind_some

        by : (o : Option Files) → reads old ≡ o → is_empty (content_or some name o) ≡ false
        by None told = full
        by (Some files) told = others files (there files told)

    module _ (failed : ForSome (reads old) (λ files. (now : Files) × (reads new ≡ Some now) × ((reads new ≡ reads old) ⊎ ((content_in name files ≡ none) × (ReadsAs none now ⊎ ReadsAs (content_after Made none) now))))) where
      abbrev this : Part
      this = part_or reads none name old

      this_is : IsAsPart reads this old
      this_is = some_part reads none name old kind

      -- it is none where the files are
      none_is : (files : Files) → reads old ≡ Some files → content_in name files ≡ none → none ≡ this.content
      none_is files told is = sym is ∙ this_is.content files told

      can_this : (files : Files) → reads old ≡ Some files → content_in name files ≡ none → is_empty this.content ≡ true
      can_this files told is = subst (λ (c : Content). is_empty c ≡ true) (none_is files told is) can

      either_this : (files : Files) → reads old ≡ Some files → (image : Files) → content_in name files ≡ none → OpensTo none image ⊎ OpensTo (content_after Made none) image → OpensEither (is_empty this.content) this.content image
      either_this files told image is opens =
          subst (λ (c : Content). OpensEither (is_empty c) c image) (none_is files told is) (subst (λ (b : Bool). OpensEither b none image) (sym can) opens)

      same_or : (o : Option Files) → reads old ≡ o → is_empty (content_or none name o) ≡ false → reads new ≡ reads old
      same_or None told not = absurd (false≢true (sym not ∙ can))
      same_or (Some files) told not = elim (failed files told).2 [
        | inl same ↦ same
        | inr other ↦ absurd (false≢true (sym not ∙ (ap is_empty other.0 ∙ can)))
      ]

      becomes_or : (o : Option Files) → reads old ≡ o → Becomes (reads old) (reads new) this.content ⊎ ((is_empty this.content ≡ true) × Becomes (reads old) (reads new) (content_after Made this.content))
      becomes_or None none_told = inl (λ files told. absurd (none-some files (sym none_told ∙ told)))
      becomes_or (Some files) told = let end = failed files told in elim end.2 [
        | inl same ↦ inl (reads_still this.content this_is.content same)
        | inr other ↦ by other.0 other.1
      ]
        where
          by : content_in name files ≡ none → ReadsAs none (failed files told).0 ⊎ ReadsAs (content_after Made none) (failed files told).0
              → Becomes (reads old) (reads new) this.content ⊎ ((is_empty this.content ≡ true) × Becomes (reads old) (reads new) (content_after Made this.content))
          by is (inl reads_none) = inl (λ others also. ((failed files told).0, (failed files told).1, subst (λ (c : Content). ReadsAs c (failed files told).0) (none_is files told is) reads_none))
          by is (inr reads_made) = inr (
            can_this files told is,
            λ others also. ((failed files told).0, (failed files told).1, subst (λ (c : Content). ReadsAs (content_after Made c) (failed files told).0) (none_is files told is) reads_made),
          )

      -- its disk failed
      pub stops_making : (faults : D → ℕ) → Rose (faults old) (faults new) → StopsMaking reads may_leave moment left_since faults name name old new
      stops_making faults rose = record {
        part = this;
        named = refl;
        told_is = refl;
        rose = rose;
        stopped = record {
          makes = record {
            is = this_is;
            places = places this.content this_is.kind;
            same = same_or (reads old) refl;
            moments = λ files told. weaker moment left_since old new (λ (left : Files). IsImage (may_leave old) left ⊎ ((content_in name files ≡ none) × (OpensTo none left ⊎ OpensTo (content_after Made none) left)))
                (λ (left : Files). IsImage (may_leave old) left ⊎ OpensEither (is_empty this.content) this.content left) (run files told)
                (λ left was. elim was [ inl image ↦ inl image | inr other ↦ inr (either_this files told left other.0 other.1) ]);
          };
          becomes = becomes_or (reads old) refl;
          images = λ files told image left. elim (image_since files told image left) [ inl was ↦ inl was | inr other ↦ inr (either_this files told image other.0 other.1) ];
        };
      }
