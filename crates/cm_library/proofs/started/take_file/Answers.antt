use Rattle.std.proofs.Common.{◌==◌, ℕ, List, sym, ◌∙◌, ap, subst, option_map}
use Rattle.std.specs.Prelude.{Option, None, Some}
use Rattle.cm_filelib.specs.declared.writing.Writing.{Writing}
use Rattle.cm_pkglib.proofs.Among.{filter_none}
use Rattle.cm_state.proofs.Lists.{find_none}
use Rattle.cm_library.specs.Started.{IsFileAt}
use Rattle.cm_library.proofs.FileAt.{file_there, file_taken}
use Rattle.cm_library.proofs.started.take_file.Goals as goal

pub returns-in-Some-clause-found : goal.returns-in-Some-clause-found
returns-in-Some-clause-found c =
    let there = subst (λ (l : List (ℕ × Writing)). IsFileAt c.args.job l (Some c.in-Some.at)) c.deref.ensures.value c.in-Some.ensures.there in
    file_there c.args.job c.args.started.now.items c.in-Some.at there c.remove.result c.remove.ensures.value

pub returns-in-Some-clause-rest : goal.returns-in-Some-clause-rest
returns-in-Some-clause-rest c =
    let there = subst (λ (l : List (ℕ × Writing)). IsFileAt c.args.job l (Some c.in-Some.at)) c.deref.ensures.value c.in-Some.ensures.there in
    c.remove.ensures.items ∙ file_taken c.args.job c.args.started.now.items c.in-Some.at c.requires.apart there

pub returns-in-None-clause-found : goal.returns-in-None-clause-found
returns-in-None-clause-found c =
    let none = subst (λ (l : List (ℕ × Writing)). IsFileAt c.args.job l None) c.deref.ensures.value c.in-None.ensures.there in
    sym (ap (λ (o : Option (ℕ × Writing)). option_map (λ (file : ℕ × Writing). file.1) o) (find_none (λ (file : ℕ × Writing). file.0 == c.args.job) c.args.started.now.items none))

pub returns-in-None-clause-rest : goal.returns-in-None-clause-rest
returns-in-None-clause-rest c =
    let none = subst (λ (l : List (ℕ × Writing)). IsFileAt c.args.job l None) c.deref.ensures.value c.in-None.ensures.there in
    sym (filter_none (λ (file : ℕ × Writing). file.0 == c.args.job) c.args.started.now.items none)
