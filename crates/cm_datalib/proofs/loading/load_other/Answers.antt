use Rattle.std.proofs.Common.{ℕ, sym, ◌∙◌, ap}
use Rattle.std.specs.Prelude.{Some}
use Rattle.cm_datalib.proofs.Loaded.{sized, named_size, loaded-absent, loaded-other, hashed-named}
use Rattle.cm_datalib.proofs.loading.load_other.Goals as goal

pub returns-in_default-clause-answer : goal.returns-in_default-clause-answer
returns-in_default-clause-answer g c x told =
    loaded-absent (x c.args.place.now) c.args.hash c.args.size (sym c.in_default.is ∙ c.in_ok-file.ensures.exact x told)

pub returns-then-not-is_named-clause-answer : goal.returns-then-not-is_named-clause-answer
returns-then-not-is_named-clause-answer g c x told =
    loaded-other (x c.args.place.now) c.in-Some.file c.args.size c.args.hash (sym c.in-Some.is ∙ c.in_ok-file.ensures.exact x told) (sym c.is_named.ensures ∙ c.if-not-is_named.true)

pub returns-then-from-gt-MOST_BYTES-clause-answer : goal.returns-then-from-gt-MOST_BYTES-clause-answer
returns-then-from-gt-MOST_BYTES-clause-answer g c x told =
    c.refuse_longer.ensures.answer x (c.hash_file.ensures.same ∙ told)
    (hashed-named (x c.args.place.now) c.in-Some.file c.args.size c.args.hash (sym c.in-Some.is ∙ c.in_ok-file.ensures.exact x told) (sym c.is_named.ensures ∙ c.if-not-is_named.false))

pub returns-clause-answer : goal.returns-clause-answer
returns-clause-answer g c x told =
    c.load_named.ensures.answer x (c.hash_file.ensures.same ∙ told)
    (sized (x c.args.place.now) c.in-Some.file (sym c.in-Some.is ∙ c.in_ok-file.ensures.exact x told)
    ∙ ap (λ (n : ℕ). Some n) (named_size c.in-Some.file c.args.size c.args.hash (sym c.is_named.ensures ∙ c.if-not-is_named.false)))
