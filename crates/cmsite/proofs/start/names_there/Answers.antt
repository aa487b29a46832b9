use Rattle.std.proofs.Common.{◌≡◌, ap, ◌∙◌, ◌++◌}
use Rattle.std.proofs.lemmas.List.{take_all, append-nil}
use Rattle.cmsite.specs.Arguments.{texts, words_in, names_in}
use Rattle.cmsite.proofs.FewArguments.{no_words}
use Rattle.cmsite.proofs.start.names_there.Goals as goal

behind_folders : (c : goal.After-drop-named-2) → c.loop-name.there.items ≡ c.in_ok-there.there.items ++ names_in (texts (words_in c.args.arguments.now))
behind_folders c =
    c.loop-name.invariant ∙ ap (λ names. c.in_ok-there.there.items ++ names)
    (take_all c.loop-name.name-index c.deref-name-items.result.now c.loop-name-test.false ∙ (c.deref-name-items.ensures.value ∙ (c.in_ok-named.ensures ∙ ap (λ words. names_in (texts words)) c.words_of.ensures)))

pub returns-clause-few : goal.returns-clause-few
returns-clause-few c few =
    behind_folders c ∙ (ap (λ names. c.in_ok-there.there.items ++ names) (no_words c.args.arguments.now few) ∙ (append-nil c.in_ok-there.there.items ∙ c.in_ok-there.ensures few))

pub returns-clause-named : goal.returns-clause-named
returns-clause-named c = (c.in_ok-there.there.items, behind_folders c)
