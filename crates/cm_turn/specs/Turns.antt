-- What the steps of a turnstile tell, and what a turn and the end do.
use Rattle.std.specs.Prelude.{◌≡◌, ℕ, ◌==◌, ◌⊎◌, List, [], ◌∷◌, ◌++◌, Option, Some, MatchBool}
use Rattle.atomic_table.specs.Table.{Me, Step}
use Rattle.cm_turn.specs.Lists.{Each, IsFront, placed_from, StandIn}
use Rattle.cm_turn.specs.Views.{view_at_turn, view_after_turn}
use Rattle.cm_turn.specs.declared.rule.View.{View}

module _ {T S E : Type 0} (start_of : T → S) (list_of : T → List E) where
  -- the value y is that of a turn of the seat v: it has the seat's Start, its list begins with all that the seat had seen, and the
  -- seat's own entries stand in it. A seat with all parts had seen the whole list
  pub record Holds (v : View S E) (y : T) : Type 0 where
    pub start : v.start ≡ Some (start_of y)
    pub seen : IsFront v.seen (list_of y)
    pub own : StandIn (list_of y) v.own
    pub whole : v.parts ≡ 64 → v.seen ≡ list_of y

  -- the seat took the turn, and the slot with this value
  pub record Took (m n : Me (Option T) (View S E)) : Type 0 where
    pub value : T
    pub view : n.0 ≡ view_at_turn m.0 (list_of value)
    pub slot : n.1 ≡ (0, Some value) ∷ m.1
    pub holds : Holds m.0 value

  -- the word was the one expected, and the turn was taken; or it was not, and nothing changed
  abbrev pub Takes : Step (Option T) → Me (Option T) (View S E) → ℕ → Me (Option T) (View S E) → Type 0
  Takes st m found n = MatchBool (found == st.first) (Took m n) (n ≡ m)

  -- a turn: the value that it held, the value that it gave back, with one entry more or none, and the view afterwards. The test
  -- holds of the two values
  pub record Turned (v w : View S E) (test : T → T → Type 0) : Type 0 where
    pub before : T
    pub after : T
    pub gives : test before after
    pub holds : Holds v before
    pub start : start_of after ≡ start_of before
    pub entries : (list_of after ≡ list_of before) ⊎ ((e : E) × (list_of after ≡ list_of before ++ e ∷ []))
    pub view : w ≡ view_after_turn (view_at_turn v (list_of before)) (list_of after)

  -- the last value, as the seat with all parts knows it: its entries are the seat's own, each once and in order; all that it or a
  -- seat joined into it had seen is a front of the list
  pub record Closes (v : View S E) (y : T) : Type 0 where
    pub start : v.start ≡ Some (start_of y)
    pub seen : v.seen ≡ list_of y
    pub own : v.own ≡ placed_from 0 (list_of y)
    pub old : Each (λ l. IsFront l (list_of y)) v.old

module _ {T S E : Type 0} (list_of : T → List E) where
  -- the turn was given back with the value in the slot
  abbrev pub GivesTurn : Step (Option T) → Me (Option T) (View S E) → ℕ → Me (Option T) (View S E) → Type 0
  GivesTurn st m found n = (y : T) × (m.1 ≡ (0, Some y) ∷ []) × (n.0 ≡ view_after_turn m.0 (list_of y)) × (n.1 ≡ [])
