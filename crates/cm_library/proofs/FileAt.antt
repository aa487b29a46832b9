-- Where the started file of a job stands.
use Rattle.std.proofs.Common.{◌≡◌, ℕ, suc, ◌+◌, ◌<◌, ◌==◌, true, false, List, [], ◌∷◌, ◌++◌, length, take, drop, get_or, refl, sym, ◌∙◌, ap, subst, add-one}
use Rattle.std.specs.Prelude.{not, find, filter, Option, Some, option_map}
use Rattle.std.specs.List.{AllByRecursion}
use Rattle.std.proofs.lemmas.Bool.{eq-eqb, eqb-true, ne_eqb}
use Rattle.std.proofs.lemmas.List.{append_cancel_left, take-append-drop}
use Rattle.cm_pkglib.proofs.Among.{find_middle, filter_middle}
use Rattle.cm_pkglib.proofs.Halves.{read_of_rest}
use Rattle.cm_filelib.specs.declared.writing.Writing.{Writing}
use Rattle.cm_state.proofs.Committed.{all_through}
use Rattle.cm_state.proofs.Lists.{split_at}
use Rattle.cm_library.specs.Started.{started_by, without_file, AreApart, AreAllApart, IsFileAt}

abbrev File : Type 0
File = ℕ × Writing

-- a list at the file that was looked for
pub found_at : (job : ℕ) (started : List (ℕ × Writing)) (at : ℕ) (file : ℕ × Writing) → at < length started → file ≡ get_or started at file → (file.0 == job) ≡ true → started ≡ take at started ++ (job, file.1) ∷ drop (at + 1) started
found_at job started at file within is same =
    subst (λ (n : ℕ). started ≡ take at started ++ (n, file.1) ∷ drop (at + 1) started) (eqb-true file.0 job same)
    (split_at started at file within is ∙ ap (λ (n : ℕ). take at started ++ file ∷ drop n started) (sym (add-one at)))

-- the file that is taken from there
pub file_there : (job : ℕ) (started : List (ℕ × Writing)) (at : ℕ) → IsFileAt job started (Some at) → (taken : ℕ × Writing) → taken ≡ get_or started at taken → Some taken.1 ≡ started_by job started
file_there job started at there taken is =
    let own = λ (file : File). file.0 == job in
    let behind = drop (at + 1) started in
    let rest : drop at started ≡ (job, there.0) ∷ behind = append_cancel_left (take at started) (drop at started) ((job, there.0) ∷ behind) (take-append-drop at started ∙ there.1) in
    ap (λ (file : File). Some file.1) (is ∙ read_of_rest started at (job, there.0) behind rest taken)
    ∙ sym (ap (λ (o : Option File). option_map (λ (file : File). file.1) o) (ap (λ (l : List File). find own l) there.1 ∙ find_middle own (take at started) (job, there.0) behind there.2 (eq-eqb job job refl)))

apart_behind : (front : List File) (file : File) (behind : List File) → AreAllApart (front ++ file ∷ behind) → AllByRecursion (AreApart file) behind
apart_behind [] file behind apart = apart.0
apart_behind (first ∷ front) file behind apart = apart_behind front file behind apart.1

-- the others stay
pub file_taken : (job : ℕ) (started : List (ℕ × Writing)) (at : ℕ) → AreAllApart started → IsFileAt job started (Some at) → take at started ++ drop (suc at) started ≡ without_file job started
file_taken job started at apart there =
    let own = λ (file : File). file.0 == job in
    let behind = drop (at + 1) started in
    let others = all_through (AreApart (job, there.0)) (λ (file : File). (file.0 == job) ≡ false) (λ file apart. ne_eqb file.0 job (λ e. apart.jobs (sym e))) behind
    (apart_behind (take at started) (job, there.0) behind (subst AreAllApart there.1 apart)) in
    ap (λ (n : ℕ). take at started ++ drop n started) (sym (add-one at))
    ∙ sym (ap (λ (l : List File). filter (λ (file : File). not (own file)) l) there.1 ∙ filter_middle own (take at started) (job, there.0) behind there.2 (eq-eqb job job refl) others)
