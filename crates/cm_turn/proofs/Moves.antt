-- The steps of a turnstile keep its rule.
use Rattle.std.proofs.Common.{◌≡◌, ◌≢◌, ℕ, zero, suc, ◌+◌, ◌*◌, ◌%◌, ◌<◌, ◌≤◌, ◌==◌, ◌⊎◌, ltb, Bool, true, false, List, [], ◌∷◌, ◌++◌, length, slice_index, slice_set, Option, Some, None, unwrap_or, refl, sym, ap, ap₂, ◌∙◌, subst, inl, inr, ⊎_elim, arith, eq-eqb, ne_eqb, length-append, lt_of_not-le, zero-le, zero-add}
use mathlib.Core.Option.{some, none, some-injective, some-ne-none, Option as Option'}
use mathlib.Core.Logic.{dite}
use native.Mathlib.Decide.{dec_le, ℕ_discrete}
use prog.Atomic.{either}
use lib.ListN.{get_elem?}
use Rattle.std.proofs.Math.Seq.{drop-append_seam}
use Rattle.atomic_table.specs.Table.{State, takes, gives, keeps, step, stepped, Allows, Splits, Joins, Valid, opening, Final, Seen}
use Rattle.atomic_table.proofs.Lists.{at_set, at_snoc, set_again, set_else}
use Rattle.cm_turn.specs.Lists.{one_if, sum_of, IsFront, longer_of, placed_from, StandIn, count_at}
use Rattle.cm_turn.specs.Views.{entries_behind, first_view, spent_view, view_after_split, newcomer, view_after_join, view_at_turn, view_after_turn}
use Rattle.cm_turn.specs.Rule.{word_of, one_if_some, IsPlaced, Knows, KeepsRule}
use Rattle.cm_turn.specs.Turns.{Takes, GivesTurn, Closes}
use Rattle.cm_turn.specs.declared.rule.View.{View}
use Rattle.cm_turn.proofs.Sums.{sum_set, sum_last, sum_at, sum_two, sum_alone, each_weaker, each_append}
use Rattle.cm_turn.proofs.Fronts.{front_self, front_further, front_at, longer_is, same_length, at_short}
use Rattle.cm_turn.proofs.Places.{is_else, is_below, is_not_below, count_at_append, count_at_merge, count_at_placed, rising_append, placed_stand, merge_rising, each_merge, owned}

-- lists read after a write
module _ {V : Type 0} (Q : V → Type 0) where
  all_set : (l : List V) (id : ℕ) (w : V) → ((i : ℕ) (v : V) → get_elem? l i ≡ some v → Q v) → Q w → (i : ℕ) (u : V) → get_elem? (slice_set l id w) i ≡ some u → Q u
  all_set l id w h q i u a = ⊎_elim (λ (t : (i ≡ id) × (w ≡ u)). subst Q t.1 q) (λ (t : (i ≢ id) × (get_elem? l i ≡ some u)). h i u t.1) (at_set l id i w u a)

  all_last : (l : List V) (w : V) → ((i : ℕ) (v : V) → get_elem? l i ≡ some v → Q v) → Q w → (i : ℕ) (u : V) → get_elem? (l ++ w ∷ []) i ≡ some u → Q u
  all_last l w h q i u a = ⊎_elim (λ (t : get_elem? l i ≡ some u). h i u t) (λ (t : w ≡ u). subst Q t q) (at_snoc l w u i a)

same_weight : {V : Type 0} (f : V → ℕ) (l : List V) (i : ℕ) (v w : V) → get_elem? l i ≡ some v → f w ≡ f v → sum_of f (slice_set l i w) ≡ sum_of f l
same_weight f l i v w a e = let h = sum_set f l i v w a in omega (arith, h, e)

module _ {S E : Type 0} where
  knows_first : (first : S) → Knows {E = E} first [] (first_view first)
  knows_first first = record { some = omega arith; start = refl; seen = front_self []; old = tt; own = tt; rising = tt; turn = inl refl }

  only_first : (first : S) (i : ℕ) (v : View S E) → get_elem? (first_view first ∷ []) i ≡ some v → first_view first ≡ v
  only_first first zero v at = some-injective _ _ at
  only_first first (suc i) v at = absurd (some-ne-none v (sym at))

  -- a view with parts is not spent_view
  live : (first : S) (log : List E) (v : View S E) → (v ≡ spent_view) ⊎ Knows first log v → 0 < v.parts → Knows first log v
  live first log v d h = ⊎_elim (λ (e : v ≡ spent_view). let q = ap (λ (u : View S E). u.parts) e in absurd (omega (arith, h, q))) (λ (k : Knows first log v). k) d

  no_turn : (first : S) (log : List E) (v : View S E) → Knows first log v → one_if_some v.turn ≡ 0 → v.turn ≡ None
  no_turn first log v k h = ⊎_elim (λ (e : v.turn ≡ None). e) (λ (t : (v.turn ≡ Some log) × (v.seen ≡ log)). let q = ap one_if_some t.0 in absurd (omega (arith, h, q))) k.turn

  knows_taken : (first : S) (log : List E) (v : View S E) → Knows first log v → Knows first log (view_at_turn v log)
  knows_taken first log v k = record {
    some = k.some;
    start = k.start;
    seen = front_self log;
    old = each_weaker (λ m. IsFront m v.seen) (λ m. IsFront m log) (λ m h. front_further m v.seen log h k.seen) v.old k.old;
    own = each_weaker (λ x. get_elem? v.seen x.0 ≡ some x.1) (λ x. get_elem? log x.0 ≡ some x.1) (λ x h. front_at v.seen log x.0 x.1 k.seen h) v.own k.own;
    rising = k.rising;
    turn = inr (refl, refl);
  }

  -- an idle view knows as much of a longer_of list
  knows_longer : (first : S) (log more : List E) (v : View S E) → Knows first log v → v.turn ≡ None → Knows first (log ++ more) v
  knows_longer first log more v k idle = record {
    some = k.some;
    start = k.start;
    seen = front_further v.seen log (log ++ more) k.seen (more, refl);
    old = k.old;
    own = k.own;
    rising = k.rising;
    turn = inl idle;
  }

  knows_given : (first : S) (log more : List E) (v : View S E) → Knows first log v → v.seen ≡ log
      → Knows first (log ++ more) record { parts = v.parts; start = v.start; own = v.own ++ placed_from (length log) more; seen = log ++ more; old = v.old; turn = None }
  knows_given first log more v k seen =
      let stand : StandIn log v.own = subst (λ (l : List E). StandIn l v.own) seen k.own in
      record {
        some = k.some;
        start = k.start;
        seen = front_self (log ++ more);
        old = each_weaker (λ m. IsFront m v.seen) (λ m. IsFront m (log ++ more)) (λ m h. front_further m v.seen (log ++ more) h (front_further v.seen log (log ++ more) k.seen (more, refl))) v.old k.old;
        own = each_append (λ x. get_elem? (log ++ more) x.0 ≡ some x.1) v.own (placed_from (length log) more)
            (each_weaker (λ x. get_elem? log x.0 ≡ some x.1) (λ x. get_elem? (log ++ more) x.0 ≡ some x.1) (λ x h. front_at log (log ++ more) x.0 x.1 (more, refl) h) v.own stand)
            (placed_stand log more);
        rising = rising_append 0 v.own log more (zero-le) k.rising stand;
        turn = inl refl;
      }

  knows_fewer : (first : S) (log : List E) (v : View S E) → Knows first log v → 1 < v.parts → Knows first log (view_after_split v)
  knows_fewer first log v k h = record { some = omega (arith, h); start = k.start; seen = k.seen; old = k.old; own = k.own; rising = k.rising; turn = k.turn }

  knows_new : (first : S) (log : List E) (v : View S E) → Knows first log v → Knows first log (newcomer v)
  knows_new first log v k = record { some = omega arith; start = k.start; seen = k.seen; old = tt; own = tt; rising = tt; turn = inl refl }

  knows_joined : (first : S) (log : List E) (v w : View S E) → Knows first log v → Knows first log w → ((p : ℕ) → count_at p v.own + count_at p w.own ≤ 1) → Knows first log (view_after_join v w)
  knows_joined first log v w k m once =
      let both = longer_is v.seen w.seen log k.seen m.seen in
      let l = longer_of v.seen w.seen in
      record {
        some = (let a = k.some in omega (arith, a));
        start = k.start;
        seen = both.2;
        old = (
          both.0,
          (
            both.1,
            each_append (λ o. IsFront o l) v.old w.old
                (each_weaker (λ o. IsFront o v.seen) (λ o. IsFront o l) (λ o h. front_further o v.seen l h both.0) v.old k.old)
                (each_weaker (λ o. IsFront o w.seen) (λ o. IsFront o l) (λ o h. front_further o w.seen l h both.1) w.old m.old),
          ),
        );
        own = each_merge (λ x. get_elem? l x.0 ≡ some x.1) v.own w.own
            (each_weaker (λ x. get_elem? v.seen x.0 ≡ some x.1) (λ x. get_elem? l x.0 ≡ some x.1) (λ x h. front_at v.seen l x.0 x.1 both.0 h) v.own k.own)
            (each_weaker (λ x. get_elem? w.seen x.0 ≡ some x.1) (λ x. get_elem? l x.0 ≡ some x.1) (λ x h. front_at w.seen l x.0 x.1 both.1 h) w.own m.own);
        rising = merge_rising 0 v.own w.own k.rising m.rising once;
        turn = inl refl;
      }

module _ {T S E : Type 0} (start : T → S) (told : T → List E) where
  pub opens : (y : T) → told y ≡ [] → KeepsRule start told (start y) (opening (0 ∷ []) (Some y ∷ []) (first_view (start y)))
  opens y empty = record {
    log = [];
    out = false;
    word = refl;
    placed = (y, refl, refl, empty);
    seats = λ i v at. inr (subst (λ u. Knows (start y) [] u) (only_first (start y) i v at) (knows_first (start y)));
    parts = refl;
    turns = refl;
    places = λ p. sym (is_not_below p 0 zero-le);
  }

-- the word is even where the slot is home, and odd where it is out
even_home : (n : ℕ) (out : Bool) (w : ℕ) → word_of n out ≡ w → w % 2 ≡ 0 → out ≡ false
even_home n false w e h = refl
even_home n true w e h = absurd (omega (arith, e, h))

is_out : (out : Bool) → 1 ≤ one_if out → out ≡ true
is_out true h = refl
is_out false h = absurd (omega (arith, h))

is_home : (out : Bool) → 0 ≡ one_if out → out ≡ false
is_home true h = absurd (omega (arith, h))
is_home false h = refl

one_if_most : (b : Bool) → one_if b ≤ 1
one_if_most true = omega arith
one_if_most false = omega arith

module _ {E : Type 0} where
  stand_short : (l : List E) (p : ℕ) (own : List (ℕ × E)) → length l ≤ p → StandIn l own → count_at p own ≡ 0
  stand_short l p [] h s = refl
  stand_short l p (x ∷ xs) h s =
      let a = at_short l x.0 x.1 s.0 in
      let b = is_else x.0 p (λ e. omega (arith, h, a, e)) in
      let c = stand_short l p xs h s.1 in
      omega (arith, b, c)

  abbrev list_of_some : Option (List E) → List E
  list_of_some None = []
  list_of_some (Some l) = l

  same_list : (a b : List E) → Some a ≡ Some b → a ≡ b
  same_list a b e = ap list_of_some e

  none_is_not : (l : List E) → None ≡ Some l → ⊥
  none_is_not l e = let q = ap one_if_some e in absurd (omega (arith, q))

pub same_start : {S : Type 0} (a b : S) → Some a ≡ Some b → a ≡ b
same_start a b e = ap (λ o. unwrap_or o a) e

module _ {T S E : Type 0} (start : T → S) (told : T → List E) where
  -- all others are spent_view, where one has all parts
  others_spent : (first : S) (s : State (Option T) (View S E)) (k : KeepsRule start told first s) (id : ℕ) (v : View S E) → get_elem? s.views id ≡ some v → v.parts ≡ 64
      → (j : ℕ) (w : View S E) → j ≢ id → get_elem? s.views j ≡ some w → w ≡ spent_view
  others_spent first s k id v at all j w n b =
      let two = sum_two (λ (u : View S E). u.parts) s.views id j v w (λ e. n (sym e)) at b in
      let sum = k.parts in
      ⊎_elim (λ (e : w ≡ spent_view). e) (λ (m : Knows first k.log w). let some = m.some in absurd (omega (arith, two, sum, all, some))) (k.seats j w b)

  own_all : (first : S) (s : State (Option T) (View S E)) (k : KeepsRule start told first s) (id : ℕ) (v : View S E) → get_elem? s.views id ≡ some v → v.parts ≡ 64
      → (p : ℕ) → count_at p v.own ≡ one_if (ltb p (length k.log))
  own_all first s k id v at all p =
      sym (sum_alone (λ (u : View S E). count_at p u.own) s.views id v at (λ j w n b. ap (λ (u : View S E). count_at p u.own) (others_spent first s k id v at all j w n b))) ∙ k.places p

  seen_whole : (first : S) (s : State (Option T) (View S E)) (k : KeepsRule start told first s) (id : ℕ) (v : View S E) → get_elem? s.views id ≡ some v → Knows first k.log v → v.parts ≡ 64
      → k.log ≡ v.seen
  seen_whole first s k id v at m all = dite (dec_le (length k.log) (length v.seen))
      (λ h. same_length v.seen k.log m.seen h)
      (λ n.
      let lt : length v.seen < length k.log = lt_of_not-le n in
      let a = own_all first s k id v at all (length v.seen) in
      let b = is_below (length v.seen) (length k.log) lt in
      let c = stand_short v.seen (length v.seen) v.own (omega arith) m.own in
      absurd (omega (arith, a, b, c)))

  stays : (first : S) (s : State (Option T) (View S E)) (id : ℕ) (v : View S E) → KeepsRule start told first s → get_elem? s.views id ≡ some v
      → KeepsRule start told first (stepped s 0 (slice_index s.words 0) id [] v keeps)
  stays first s id v k at = record {
    log = k.log;
    out = k.out;
    word = rw k.word refl;
    placed = k.placed;
    seats = rw (set_again s.views id v at) k.seats;
    parts = rw (set_again s.views id v at) k.parts;
    turns = rw (set_again s.views id v at) k.turns;
    places = rw (set_again s.views id v at) k.places;
  }

  -- the state after the turn was taken
  taken_state : (first : S) (s : State (Option T) (View S E)) (id w : ℕ) (v : View S E) (y : T) (k : KeepsRule start told first s)
      → get_elem? s.views id ≡ some v → 0 < v.parts → word_of (length k.log) k.out ≡ w → k.out ≡ false → s.homes ≡ some (Some y) ∷ [] → told y ≡ k.log
      → KeepsRule start told first (stepped s 0 (w + 1) id [] (view_at_turn v (told y)) (takes 0 (Some y)))
  taken_state first s id w v y k at parts word home homes list =
      let m = live first k.log v (k.seats id v at) parts in
      let u = view_at_turn v (told y) in
      let knows : Knows first k.log u = subst (λ (l : List E). Knows first k.log (view_at_turn v l)) (sym list) (knows_taken first k.log v m) in
      let none = k.turns ∙ ap one_if home in
      let idle = sum_at (λ (x : View S E). one_if_some x.turn) s.views id v at in
      let turned = sum_set (λ (x : View S E). one_if_some x.turn) s.views id v u at in
      record {
        log = k.log;
        out = true;
        word = rw k.word (ap (λ (n : ℕ). n ∷ []) (let q : word_of (length k.log) false ≡ w = subst (λ o. word_of (length k.log) o ≡ w) home word in omega (arith, q)));
        placed = rw homes refl;
        seats = all_set (λ (x : View S E). (x ≡ spent_view) ⊎ Knows first k.log x) s.views id u k.seats (inr knows);
        parts = same_weight (λ (x : View S E). x.parts) s.views id v u at refl ∙ k.parts;
        turns = omega (arith, none, idle, turned);
        places = λ p. same_weight (λ (x : View S E). count_at p x.own) s.views id v u at refl ∙ k.places p;
      }

  home_valid : (homes : List (Option' (Option T))) (y : T) → homes ≡ some (Some y) ∷ [] → Valid homes [] (takes 0 (Some y))
  home_valid homes y e = rw e refl

  pub takes_turn : (first : S) (id : ℕ) (v : View S E) (w : ℕ) → w % 2 ≡ 0 → 0 < v.parts
      → Allows (KeepsRule start told first) 1 id (v, []) 0 (λ k. either (k == w) (w + 1) k) (Takes start told (step 1 0 w (w + 1) none) (v, []))
  takes_turn first id v w even parts s k deep at small = dite (ℕ_discrete (slice_index s.words 0) w)
      (λ e.
      let word_is : word_of (length k.log) k.out ≡ w = sym (ap (λ (l : List ℕ). slice_index l 0) k.word) ∙ e in
      let home = even_home (length k.log) k.out w word_is even in
      let at_home = subst (λ (o : Bool). IsPlaced start told s.homes o first k.log) home k.placed in
      let y = at_home.0 in
      let list = at_home.3 in
      let m = live first k.log v (k.seats id v at) parts in
      rw (eq-eqb (slice_index s.words 0) w e) (
        view_at_turn v (told y),
        takes 0 (Some y),
        home_valid s.homes y at_home.1,
        taken_state first s id w v y k at parts word_is home at_home.1 list,
        record {
          value = y;
          view = refl;
          slot = refl;
          holds = record {
            start = m.start ∙ ap (λ (f : S). Some f) (sym at_home.2);
            seen = subst (λ (l : List E). IsFront v.seen l) (sym list) m.seen;
            own = subst (λ (l : List E). StandIn l v.own) (sym list) (each_weaker (λ x. get_elem? v.seen x.0 ≡ some x.1) (λ x. get_elem? k.log x.0 ≡ some x.1) (λ x h. front_at v.seen k.log x.0 x.1 m.seen h) v.own m.own);
            whole = λ all. sym (seen_whole first s k id v at m all) ∙ sym list;
          };
        },
      ))
      (λ ne. rw (ne_eqb (slice_index s.words 0) w ne) (v, keeps, tt, stays first s id v k at, refl))

  -- the turn is given back
  given_is : (v : View S E) (log more l : List E) → v.turn ≡ Some log → l ≡ log ++ more
      → view_after_turn v l ≡ record { parts = v.parts; start = v.start; own = v.own ++ placed_from (length log) more; seen = log ++ more; old = v.old; turn = None }
  given_is v log more l turn e =
      let own : entries_behind v.turn l ≡ placed_from (length log) more = rw (turn, e, drop-append_seam log more) refl in
      ap₂ (λ (o : List (ℕ × E)) (m : List E). record { parts = v.parts; start = v.start; own = v.own ++ o; seen = m; old = v.old; turn = None }) own e

  given_state : (first : S) (s : State (Option T) (View S E)) (id : ℕ) (v : View S E) (y : T) (more : List E) (k : KeepsRule start told first s)
      → get_elem? s.views id ≡ some v → Knows first k.log v → v.turn ≡ Some k.log → v.seen ≡ k.log → start y ≡ first → told y ≡ k.log ++ more
      → KeepsRule start told first (stepped s 0 (2 * length (told y)) id ((0, Some y) ∷ []) (view_after_turn v (told y)) gives)
  given_state first s id v y more k at m turn seen begun list =
      let log = k.log ++ more in
      let u = view_after_turn v (told y) in
      let plain : View S E = record { parts = v.parts; start = v.start; own = v.own ++ placed_from (length k.log) more; seen = log; old = v.old; turn = None } in
      let same : u ≡ plain = given_is v k.log more (told y) turn list in
      let knows : Knows first log u = subst (λ x. Knows first log x) (sym same) (knows_given first k.log more v m seen) in
      let mine = ap one_if_some turn in
      let most = sum_at (λ (x : View S E). one_if_some x.turn) s.views id v at in
      let turns = k.turns in
      let out = is_out k.out (omega (arith, mine, most, turns)) in
      let homes : s.homes ≡ none ∷ [] = subst (λ (o : Bool). IsPlaced start told s.homes o first k.log) out k.placed in
      let one = k.turns ∙ ap one_if out in
      let turned = sum_set (λ (x : View S E). one_if_some x.turn) s.views id v u at in
      record {
        log = log;
        out = false;
        word = rw k.word (ap (λ (n : ℕ). n ∷ []) (let q = ap (λ (l : List E). length l) list in omega (arith, q)));
        placed = (y, rw homes refl, begun, list);
        seats = λ i x a. ⊎_elim
            (λ (t : (i ≡ id) × (u ≡ x)). inr (subst (λ z. Knows first log z) t.1 knows))
            (λ (t : (i ≢ id) × (get_elem? s.views i ≡ some x)). ⊎_elim
            (λ (e : x ≡ spent_view). inl e)
            (λ (n : Knows first k.log x).
            let two = sum_two (λ (z : View S E). one_if_some z.turn) s.views id i v x (λ e. t.0 (sym e)) at t.1 in
            inr (knows_longer first k.log more x n (no_turn first k.log x n (omega (arith, two, one, mine)))))
            (k.seats i x t.1))
            (at_set s.views id i u x a);
        parts = same_weight (λ (x : View S E). x.parts) s.views id v u at refl ∙ k.parts;
        turns = omega (arith, one, mine, turned);
        places = λ p.
            let a = sum_set (λ (x : View S E). count_at p x.own) s.views id v u at in
            let b = ap (λ (x : View S E). count_at p x.own) same ∙ count_at_append p v.own (placed_from (length k.log) more) in
            let c = k.places p in
            let d = count_at_placed p (length k.log) more ∙ ap (λ n. one_if (ltb p n)) (sym (length-append k.log more)) in
            omega (arith, a, b, c, d);
      }

  pub gives_turn : (first : S) (id : ℕ) (v : View S E) (l more : List E) (y : T) → 0 < v.parts → v.turn ≡ Some l → v.start ≡ Some (start y) → told y ≡ l ++ more
      → Allows (KeepsRule start told first) 1 id (v, (0, Some y) ∷ []) 0 (λ _. 2 * length (told y)) (λ _. GivesTurn told (step 1 0 (2 * length (told y)) 0 none) (v, (0, Some y) ∷ []) (2 * length (told y)))
  gives_turn first id v l more y parts turn begun list s k deep at small =
      let m = live first k.log v (k.seats id v at) parts in
      let both : (v.turn ≡ Some k.log) × (v.seen ≡ k.log) = ⊎_elim (λ (e : v.turn ≡ None). absurd (none_is_not l (sym e ∙ turn))) (λ (t : (v.turn ≡ Some k.log) × (v.seen ≡ k.log)). t) m.turn in
      let same = same_list l k.log (sym turn ∙ both.0) in
      let first_is = same_start (start y) first (sym begun ∙ m.start) in
      let list' = list ∙ ap (λ (z : List E). z ++ more) same in
      (view_after_turn v (told y), gives, tt, given_state first s id v y more k at m both.0 both.1 first_is list', (y, refl, refl, refl))

  pub splits : (first : S) (id : ℕ) (v : View S E) → 1 < v.parts → Splits (KeepsRule start told first) id v (view_after_split v) (newcomer v)
  splits first id v parts s k at =
      let m = live first k.log v (k.seats id v at) (omega (arith, parts)) in
      let rest = slice_set s.views id (view_after_split v) in
      record {
        log = k.log;
        out = k.out;
        word = k.word;
        placed = k.placed;
        seats = all_last (λ (x : View S E). (x ≡ spent_view) ⊎ Knows first k.log x) rest (newcomer v)
            (all_set (λ (x : View S E). (x ≡ spent_view) ⊎ Knows first k.log x) s.views id (view_after_split v) k.seats (inr (knows_fewer first k.log v m parts)))
            (inr (knows_new first k.log v m));
        parts =
            let a = sum_set (λ (x : View S E). x.parts) s.views id v (view_after_split v) at in
            let b = sum_last (λ (x : View S E). x.parts) rest (newcomer v) in
            let c = k.parts in
            omega (arith, a, b, c, parts);
        turns =
            let a = same_weight (λ (x : View S E). one_if_some x.turn) s.views id v (view_after_split v) at refl in
            let b = sum_last (λ (x : View S E). one_if_some x.turn) rest (newcomer v) in
            let c = k.turns in
            omega (arith, a, b, c);
        places = λ p.
            let a = same_weight (λ (x : View S E). count_at p x.own) s.views id v (view_after_split v) at refl in
            let b = sum_last (λ (x : View S E). count_at p x.own) rest (newcomer v) in
            let c = k.places p in
            omega (arith, a, b, c);
      }

  pub joins : (first : S) (id : ℕ) (v : View S E) (other : ℕ) (w : View S E) → 0 < v.parts → 0 < w.parts → v.turn ≡ None → w.turn ≡ None
      → Joins (KeepsRule start told first) id v other w (view_after_join v w) spent_view
  joins first id v other w some_v some_w idle_v idle_w s k at ne bt =
      let b = sym (set_else s.views id other (view_after_join v w) ne) ∙ bt in
      let m = live first k.log v (k.seats id v at) some_v in
      let n = live first k.log w (k.seats other w b) some_w in
      let once : (p : ℕ) → count_at p v.own + count_at p w.own ≤ 1 = λ p.
      (let t = sum_two (λ (x : View S E). count_at p x.own) s.views id other v w (λ e. ne (sym e)) at b in
      let c = k.places p in
      let d = one_if_most (ltb p (length k.log)) in
      omega (arith, t, c, d)) in
      let rest = slice_set s.views id (view_after_join v w) in
      let Q = λ (x : View S E). (x ≡ spent_view) ⊎ Knows first k.log x in
      record {
        log = k.log;
        out = k.out;
        word = k.word;
        placed = k.placed;
        seats = all_set Q rest other spent_view (all_set Q s.views id (view_after_join v w) k.seats (inr (knows_joined first k.log v w m n once))) (inl refl);
        parts =
            let a = sum_set (λ (x : View S E). x.parts) s.views id v (view_after_join v w) at in
            let c = sum_set (λ (x : View S E). x.parts) rest other w spent_view bt in
            let d = k.parts in
            omega (arith, a, c, d);
        turns =
            let a = sum_set (λ (x : View S E). one_if_some x.turn) s.views id v (view_after_join v w) at in
            let c = sum_set (λ (x : View S E). one_if_some x.turn) rest other w spent_view bt in
            let d = k.turns in
            let e = ap one_if_some idle_v in
            let f = ap one_if_some idle_w in
            omega (arith, a, c, d, e, f);
        places = λ p.
            let a = sum_set (λ (x : View S E). count_at p x.own) s.views id v (view_after_join v w) at in
            let c = sum_set (λ (x : View S E). count_at p x.own) rest other w spent_view bt in
            let d = k.places p in
            let e = count_at_merge p v.own w.own in
            omega (arith, a, c, d, e);
      }

  -- the last state, of which one view has all parts
  pub closes : (first : S) (id : ℕ) (v : View S E) (words : List ℕ) (slots : List (Option T)) → Final (Seen (KeepsRule start told first) id v) words slots → v.parts ≡ 64 → v.turn ≡ None
      → (y : T) × (get_elem? slots 0 ≡ some (Some y)) × Closes start told v y
  closes first id v words slots final all idle =
      let s = final.0 in
      let k = final.1.0 in
      let at = final.1.1 in
      let m = live first k.log v (k.seats id v at) (omega (arith, all)) in
      let none : sum_of (λ (u : View S E). one_if_some u.turn) s.views ≡ 0 =
      sum_alone (λ (u : View S E). one_if_some u.turn) s.views id v at (λ j w n b. ap (λ (u : View S E). one_if_some u.turn) (others_spent first s k id v at all j w n b)) ∙ ap one_if_some idle in
      let home = is_home k.out (sym none ∙ k.turns) in
      let at_home = subst (λ (o : Bool). IsPlaced start told s.homes o first k.log) home k.placed in
      let y = at_home.0 in
      let list = at_home.3 in
      let seen = seen_whole first s k id v at m all in (
        y,
        final.4 0 (Some y) (ap (λ (l : List (Option' (Option T))). get_elem? l 0) at_home.1),
        record {
          start = m.start ∙ ap (λ (f : S). Some f) (sym at_home.2);
          seen = sym seen ∙ sym list;
          own = owned 0 [] k.log v.own refl m.rising (subst (λ (l : List E). StandIn l v.own) (sym seen) m.own) (λ p. (let a = own_all first s k id v at all p in let b = is_not_below p 0 zero-le in let l = ap (λ n. one_if (ltb p n)) (sym (zero-add (length k.log))) in omega (arith, a, b, l))) ∙ ap (λ (l : List E). placed_from 0 l) (sym list);
          old = each_weaker (λ l. IsFront l v.seen) (λ l. IsFront l (told y)) (λ l h. subst (λ (z : List E). IsFront l z) (sym seen ∙ sym list) h) v.old m.old;
        },
      )
