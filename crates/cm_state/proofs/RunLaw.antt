-- The law of runs, by induction on the rows.
use Rattle.std.proofs.Common.{◌≡◌, ◌⊎◌, inl, inr, ⊎_elim, ℕ, zero, suc, Bool, true, false, true≢false, List, [], ◌∷◌, ◌++◌, take, refl, sym, ◌∙◌, ap, subst}
use Rattle.std.specs.Prelude.{Option, None, Some, slice_get, Contains}
use Rattle.std.proofs.lemmas.Option.{same_Some, none-some}
use Rattle.cm_state.specs.Runs.{Row, with_change, committed, then_replay, replay, Leads, IsStep, Follows, AreRows, OpensTo, IsPrefixed, OpensToOne}

module _ {State Change Image : Type 0} (apply : Change → State → Option State) (Opens : Image → State → Type 0) (one : OpensToOne apply Opens) where
  abbrev A : Type 0
  A = Row State Change Image

  -- one change in front
  front : (change : Option Change) (before after : State) (changes : List Change) → Leads apply Opens change before after → replay apply Opens (with_change change changes) before ≡ replay apply Opens changes after
  front None before after changes leads = ap (replay apply Opens changes) (sym leads)
  front (Some change) before after changes leads = ap (then_replay apply Opens changes) leads

  in_front : (change : Option Change) (changes : List Change) → with_change change [] ++ changes ≡ with_change change changes
  in_front None changes = refl
  in_front (Some change) changes = refl

  -- where the next row begins: with the change or without
  pub record Found (row : A) (next : State) : Type 0 where
    pub there : Bool
    pub keeps : row.ok ≡ true → there ≡ true
    pub replays : (changes : List Change) → replay apply Opens (committed (there ∷ []) (row ∷ []) ++ changes) row.before ≡ replay apply Opens changes next

  with_it : (row : A) (next : State) → Leads apply Opens row.change row.before row.after → next ≡ row.after → Found row next
  with_it row next leads is = record {
    there = true;
    keeps = λ _. refl;
    replays = λ changes. ap (λ (l : List Change). replay apply Opens l row.before) (in_front row.change changes) ∙ front row.change row.before row.after changes leads ∙ ap (replay apply Opens changes) (sym is);
  }

  without : (row : A) (next : State) → row.ok ≡ false → next ≡ row.before → Found row next
  without row next failed is = record {
    there = false;
    keeps = λ e. absurd (true≢false (sym e ∙ failed));
    replays = λ changes. ap (replay apply Opens changes) (sym is);
  }

  found : (row : A) (next : State) → IsStep apply Opens row → Follows apply Opens row next → Found row next
  found row next step =
      ⊎_elim
      (λ (goes : ((row.ok ≡ true) ⊎ (row.change ≡ None)) × (next ≡ row.after)). with_it row next step.effect goes.1)
      (λ rest. ⊎_elim
      (λ (later : (row.ok ≡ true) × ((image : Image) × Contains row.images_then image × Opens image next)). with_it row next step.effect (one later.1.0 next row.after later.1.2 (step.answered later.0 later.1.0 later.1.1)))
      (λ (stop : (row.ok ≡ false) × ((image : Image) × Contains row.images image × Opens image next)). ⊎_elim
      (λ (was : Opens stop.1.0 row.before). without row next stop.0 (one stop.1.0 next row.before stop.1.2 was))
      (λ (is : Opens stop.1.0 row.after). with_it row next step.effect (one stop.1.0 next row.after stop.1.2 is))
      (step.each stop.1.0 stop.1.1))
      rest)

  -- the first of what is told in front of the others
  split : (there : Bool) (told : List Bool) (row : A) (rows : List A) → committed (there ∷ []) (row ∷ []) ++ committed told rows ≡ committed (there ∷ told) (row ∷ rows)
  split true told row rows = in_front row.change (committed told rows)
  split false told row rows = refl

  apart : (a b c : List Change) → a ++ (b ++ c) ≡ (a ++ b) ++ c
  apart [] b c = refl
  apart (x ∷ a) b c = ap (λ (l : List Change). x ∷ l) (apart a b c)

  split_more : (there : Bool) (told : List Bool) (row : A) (rows : List A) (more : List Change) → committed (there ∷ []) (row ∷ []) ++ (committed told rows ++ more) ≡ committed (there ∷ told) (row ∷ rows) ++ more
  split_more there told row rows more = apart (committed (there ∷ []) (row ∷ [])) (committed told rows) more ∙ ap (λ (l : List Change). l ++ more) (split there told row rows)

  -- what opens from the next state opens from this one, with what is told of this row in front
  moved : (row : A) (next : State) (f : Found row next) (image : Image) (changes all : List Change) → committed (f.there ∷ []) (row ∷ []) ++ changes ≡ all → OpensTo apply Opens next image changes → OpensTo apply Opens row.before image all
  moved row next f image changes all is o = (o.0, ap (λ (l : List Change). replay apply Opens l row.before) (sym is) ∙ f.replays changes ∙ o.1, o.2)

  nothing : (change : Option Change) → with_change change [] ≡ with_change change [] ++ []
  nothing None = refl
  nothing (Some change) = refl

  pub runs_are_prefixed : (start : State) (rows : List A) → AreRows apply Opens start rows → IsPrefixed apply Opens start rows
  runs_are_prefixed start [] all = record {
    told = [];
    keeps = tt;
    each = λ k row image at there. absurd (none-some row at);
    answered = λ k row image at ok there. absurd (none-some row at);
  }
  runs_are_prefixed start (row ∷ rows) all =
      let next = all.2.0 in
      let f = found row next all.1 all.2.1 in
      let more = runs_are_prefixed next rows all.2.2 in
      subst (λ (s : State). IsPrefixed apply Opens s (row ∷ rows)) all.0
      (record { told = f.there ∷ more.told; keeps = (f.keeps, more.keeps); each = each_of all.1 next f more; answered = answered_of all.1 next f more })
    where
      each_of : IsStep apply Opens row → (next : State) (f : Found row next) (more : IsPrefixed apply Opens next rows)
          → (k : ℕ) (r : A) (image : Image) → slice_get (row ∷ rows) k ≡ Some r → Contains r.images image
          → OpensTo apply Opens row.before image (committed (take k (f.there ∷ more.told)) (take k (row ∷ rows))) ⊎ OpensTo apply Opens row.before image (committed (take k (f.there ∷ more.told)) (take k (row ∷ rows)) ++ with_change r.change [])
      each_of step next f more zero r image at there =
          let same = same_Some row r at in
          subst (λ (x : A). OpensTo apply Opens row.before image [] ⊎ OpensTo apply Opens row.before image (with_change x.change [])) same
          (⊎_elim
          (λ (was : Opens image row.before). inl (row.before, refl, was))
          (λ (is : Opens image row.after). inr (row.after, front row.change row.before row.after [] step.effect, is))
          (step.each image (subst (λ (x : A). Contains x.images image) (sym same) there)))
      each_of step next f more (suc k) r image at there =
          ⊎_elim
          (λ (o : OpensTo apply Opens next image (committed (take k more.told) (take k rows))). inl (moved row next f image (committed (take k more.told) (take k rows)) (committed (f.there ∷ take k more.told) (row ∷ take k rows)) (split f.there (take k more.told) row (take k rows)) o))
          (λ (o : OpensTo apply Opens next image (committed (take k more.told) (take k rows) ++ with_change r.change [])). inr (moved row next f image (committed (take k more.told) (take k rows) ++ with_change r.change []) (committed (f.there ∷ take k more.told) (row ∷ take k rows) ++ with_change r.change []) (split_more f.there (take k more.told) row (take k rows) (with_change r.change [])) o))
          (more.each k r image at there)

      answered_of : IsStep apply Opens row → (next : State) (f : Found row next) (more : IsPrefixed apply Opens next rows)
          → (k : ℕ) (r : A) (image : Image) → slice_get (row ∷ rows) k ≡ Some r → r.ok ≡ true → Contains r.images_then image
          → OpensTo apply Opens row.before image (committed (take (suc k) (f.there ∷ more.told)) (take (suc k) (row ∷ rows)))
      answered_of step next f more zero r image at ok there =
          let same = same_Some row r at in
          let is_ok = ap (λ (x : A). x.ok) same ∙ ok in
          let opens = step.answered is_ok image (subst (λ (x : A). Contains x.images_then image) (sym same) there) in
          subst (λ (b : Bool). OpensTo apply Opens row.before image (committed (b ∷ []) (row ∷ []))) (sym (f.keeps is_ok))
          (row.after, front row.change row.before row.after [] step.effect, opens)
      answered_of step next f more (suc k) r image at ok there =
          moved row next f image (committed (take (suc k) more.told) (take (suc k) rows)) (committed (f.there ∷ take (suc k) more.told) (row ∷ take (suc k) rows)) (split f.there (take (suc k) more.told) row (take (suc k) rows)) (more.answered k r image at ok there)
