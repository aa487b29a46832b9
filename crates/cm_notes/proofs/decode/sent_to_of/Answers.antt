use Rattle.std.proofs.Common.{◌≡◌, ℕ, cond, List, length, ap, sym, ◌∙◌, arith, Some, None}
use Rattle.std.proofs.lemmas.Bool.{eq-eqb}
use Rattle.cm_pkglib.specs.Changes.{number_8, version_at, package_at}
use Rattle.cm_notes.specs.declared.note.Note.TheVariants.{Sent}
use Rattle.cm_notes.specs.declared.to.To.{To}
use Rattle.cm_notes.specs.Reading.{of_content, sent_to}
use Rattle.cm_notes.proofs.decode.sent_to_of.Goals as goal

sent_read : (fields : List ℕ) (to : To) (rest id : List ℕ) (version minute : ℕ) → length rest ≡ 8 → of_content (λ i v. Sent i v to (number_8 0 rest)) (package_at 0 fields) (version_at 8 fields) ≡ Some (Sent id version to (number_8 0 rest)) → minute ≡ number_8 0 rest → Some (Sent id version to minute) ≡ sent_to fields to rest
sent_read fields to rest id version minute l e m =
    ap (λ n. Some (Sent id version to n)) m
    ∙ sym e
    ∙ sym (ap (λ b. cond b (of_content (λ i v. Sent i v to (number_8 0 rest)) (package_at 0 fields) (version_at 8 fields)) None) (eq-eqb (length rest) 8 l))

pub returns : goal.returns
returns c =
    let long : length c.args.rest.now ≡ 8 = omega (arith, c.if-rest-ne8.false) in
    sent_read c.args.fields.now c.args.to c.args.rest.now c.in_ok-package.package c.in_ok-package.version c.number_at_8.result long (c.in_ok-package.ensures (λ i v. Sent i v c.args.to (number_8 0 c.args.rest.now))) c.number_at_8.ensures
