-- A machine that reads a text byte by byte, and the place at which a text leaves the grammar that it reads.
use Rattle.std.proofs.Common.{◌≡◌, ℕ, ◌+◌, ◌<◌, ◌≤◌, List, [], ◌∷◌, ◌++◌, length, take, drop, get_or, Option, None, Some, refl, sym, ap, ◌∙◌, subst, arith, take_all, take-append-drop, append_assoc, zero, suc}
use Rattle.std.specs.Option.{option_and_then}
use Rattle.std.proofs.lemmas.List.{take_more, append-nil}
use Rattle.cm_net.specs.Machines.{run}
use Rattle.cm_net.specs.Texts.{IsFront, LeavesAt}

module _ {S : Type 0} where
  pub run-append : (step : S → ℕ → Option S) (o : Option S) (xs ys : List ℕ) → run step o (xs ++ ys) ≡ run step (run step o xs) ys
  run-append step o [] ys = refl
  run-append step o (b ∷ xs) ys = run-append step (option_and_then (λ s. step s b) o) xs ys

  pub run-none : (step : S → ℕ → Option S) (xs : List ℕ) → run step None xs ≡ None
  run-none step [] = refl
  run-none step (b ∷ xs) = run-none step xs

module _ {S X : Type 0} where
  -- the machine reads the texts of the grammar and no others, and each text that it reads so far can be completed
  pub record Reads (step : S → ℕ → Option S) (start : S) (final : S → Option X) (Means : List ℕ → X → Type 0) : Type 0 where
    pub complete : (text : List ℕ) (x : X) → Means text x → (s : S) × (run step (Some start) text ≡ Some s) × (final s ≡ Some x)
    pub sound : (text : List ℕ) (s : S) (x : X) → run step (Some start) text ≡ Some s → final s ≡ Some x → Means text x
    pub alive : (text : List ℕ) (s : S) → run step (Some start) text ≡ Some s → IsFront Means text

  pub dead : (step : S → ℕ → Option S) (start : S) (final : S → Option X) (Means : List ℕ → X → Type 0) → Reads step start final Means
      → (front : List ℕ) → run step (Some start) front ≡ None → IsFront Means front → ⊥
  dead step start final Means reads front stuck more =
      let whole = reads.complete (front ++ more.0) more.1 more.2 in
      let none : run step (Some start) (front ++ more.0) ≡ None = run-append step (Some start) front more.0 ∙ (ap (λ (o : Option S). run step o more.0) stuck ∙ run-none step more.0) in
      let both : Some whole.0 ≡ None = sym whole.1 ∙ none in cc

  pub leaves_within : (step : S → ℕ → Option S) (start : S) (final : S → Option X) (Means : List ℕ → X → Type 0) → Reads step start final Means
      → (text : List ℕ) (at : ℕ) (s : S) → at < length text → run step (Some start) (take at text) ≡ Some s → step s (get_or text at 0) ≡ None → LeavesAt Means text at
  leaves_within step start final Means reads text at s below read stuck =
      let none : run step (Some start) (take (at + 1) text) ≡ None =
      ap (λ (t : List ℕ). run step (Some start) t) (take_more text at 0 below)
      ∙ (run-append step (Some start) (take at text) (get_or text at 0 ∷ [])
      ∙ (ap (λ (o : Option S). option_and_then (λ (t : S). step t (get_or text at 0)) o) read ∙ stuck)) in
      record {
        within = omega arith;
        front = reads.alive (take at text) s read;
        longest = λ _ more. dead step start final Means reads (take (at + 1) text) none more;
        none = λ x means. dead step start final Means reads (take (at + 1) text) none
            (drop (at + 1) text, x, subst (λ (t : List ℕ). Means t x) (sym (take-append-drop (at + 1) text)) means);
      }

  pub leaves_early : (step : S → ℕ → Option S) (start : S) (final : S → Option X) (Means : List ℕ → X → Type 0) → Reads step start final Means
      → (text : List ℕ) (s : S) → run step (Some start) text ≡ Some s → final s ≡ None → LeavesAt Means text (length text)
  leaves_early step start final Means reads text s read open_ =
      record {
        within = omega arith;
        front = reads.alive (take (length text) text) s (ap (λ (t : List ℕ). run step (Some start) t) (take_all (length text) text (omega arith)) ∙ read);
        longest = λ below _. absurd (omega (arith, below));
        none = λ x means.
            let whole = reads.complete text x means in
            let same : Some whole.0 ≡ Some s = sym whole.1 ∙ read in
            let is : final whole.0 ≡ Some x = whole.2 in cc;
      }

  pub one_reading : (step : S → ℕ → Option S) (start : S) (final : S → Option X) (Means : List ℕ → X → Type 0) → Reads step start final Means
      → (text : List ℕ) (x y : X) → Means text x → Means text y → x ≡ y
  one_reading step start final Means reads text x y p q =
      let a = reads.complete text x p in
      let b = reads.complete text y q in
      let same : Some a.0 ≡ Some b.0 = sym a.1 ∙ b.1 in
      let left : final a.0 ≡ Some x = a.2 in
      let right : final b.0 ≡ Some y = b.2 in cc

module _ {S : Type 0} where
  -- what each step keeps of the text so far holds of the whole text
  pub kept : (step : S → ℕ → Option S) (P : S → List ℕ → Type 0)
      → ((s t : S) (done : List ℕ) (b : ℕ) → P s done → step s b ≡ Some t → P t (done ++ b ∷ []))
      → (text done : List ℕ) (s t : S) → P s done → run step (Some s) text ≡ Some t → P t (done ++ text)
  kept step P keeps [] done s t was read =
      let same : s ≡ t = cc in
      subst (λ (u : S). P u (done ++ [])) same (subst (λ (d : List ℕ). P s d) (sym (append-nil done)) was)
  kept step P keeps (b ∷ text) done s t was read =
      choose (step s b) (λ e. absurd_none text t (rw e at read))
      (λ u e. subst (λ (d : List ℕ). P t d) (append_assoc done (b ∷ []) text) (kept step P keeps text (done ++ b ∷ []) u t (keeps s u done b was e) (rw e at read)))
    where
      choose : {R : Type 0} (o : Option S) → (o ≡ None → R) → ((u : S) → o ≡ Some u → R) → R
      choose None f g = f refl
      choose (Some u) f g = g u refl

      absurd_none : {R : Type 0} (text : List ℕ) (t : S) → run step None text ≡ Some t → R
      absurd_none text t is = let no : None ≡ Some t = sym (run-none step text) ∙ is in cc

  -- a byte more
  pub run_more : (step : S → ℕ → Option S) (start : S) (text : List ℕ) (at : ℕ) (s t : S) → at < length text → run step (Some start) (take at text) ≡ Some s → step s (get_or text at 0) ≡ Some t
      → run step (Some start) (take (at + 1) text) ≡ Some t
  run_more step start text at s t below read is =
      ap (λ (x : List ℕ). run step (Some start) x) (take_more text at 0 below)
      ∙ (run-append step (Some start) (take at text) (get_or text at 0 ∷ [])
      ∙ (ap (λ (o : Option S). option_and_then (λ (u : S). step u (get_or text at 0)) o) read ∙ is))

  -- all bytes
  pub run_all : (step : S → ℕ → Option S) (start : S) (text : List ℕ) (at : ℕ) (s : S) → length text ≤ at → run step (Some start) (take at text) ≡ Some s → run step (Some start) text ≡ Some s
  run_all step start text at s all read = ap (λ (x : List ℕ). run step (Some start) x) (sym (take_all at text all)) ∙ read

-- none or some
pub by_option : {A R : Type 0} (o : Option A) → (o ≡ None → R) → ((a : A) → o ≡ Some a → R) → R
by_option None none some = none refl
by_option (Some a) none some = some a refl

take_none : (text : List ℕ) → take 0 text ≡ []
take_none [] = refl
take_none (b ∷ text) = refl

module _ {S X : Type 0} (step : S → ℕ → Option S) (start : S) (final : S → Option X) (Means : List ℕ → X → Type 0) (reads : Reads step start final Means) where
  -- what the machine reads is what the text means
  pub means_read : (text : List ℕ) (x : X) → option_and_then final (run step (Some start) text) ≡ Some x → Means text x
  means_read text x is =
      by_option (run step (Some start) text) (λ e. let no : None ≡ Some x = rw e at is in cc) (λ s e. reads.sound text s x e (rw e at is))

  leaves_from : (more : ℕ) (text : List ℕ) (at : ℕ) (s : S) → at + more ≡ length text → run step (Some start) (take at text) ≡ Some s → option_and_then final (run step (Some start) text) ≡ None
      → (place : ℕ) × LeavesAt Means text place
  leaves_from zero text at s all read none =
      let whole = run_all step start text at s (omega (arith, all)) read in
      (length text, leaves_early step start final Means reads text s whole (rw whole at none))
  leaves_from (suc more) text at s all read none =
      by_option (step s (get_or text at 0))
      (λ e. (at, leaves_within step start final Means reads text at s (omega (arith, all)) read e))
      (λ t e. leaves_from more text (at + 1) t (omega (arith, all)) (run_more step start text at s t (omega (arith, all)) read e) none)

  -- a text that it does not read leaves the grammar somewhere
  pub leaves_somewhere : (text : List ℕ) → option_and_then final (run step (Some start) text) ≡ None → (place : ℕ) × LeavesAt Means text place
  leaves_somewhere text none = leaves_from (length text) text 0 start (omega arith) (ap (λ (t : List ℕ). run step (Some start) t) (take_none text)) none
