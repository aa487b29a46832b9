use Rattle.std.proofs.Common.{◌≡◌, ℕ, ◌<◌, ◌≤◌, ◌^◌, true, List, length, sym, ◌∙◌, ap, subst, arith}
use Rattle.std.specs.Prelude.{Some}
use Rattle.std.proofs.lemmas.Bool.{false≢true}
use Rattle.std.proofs.lemmas.Option.{none-some, same_Some}
use Rattle.std.proofs.lemmas.Slice.Eq.{bytes_eq-Decides}
use Rattle.cm_base.specs.Names.{is_package_id}
use Rattle.cm_datalib.specs.Places.{manifest_place, version_named}
use Rattle.cm_datalib.proofs.Names.{not_named, place_named, place_short, id_read, number_read, text_some, is_version_by}
use Rattle.cm_datalib.proofs.places.version_at.Goals as goal

pub returns-then-bytes-lt18 : goal.returns-then-bytes-lt18
returns-then-bytes-lt18 c =
    sym (not_named c.args.place.now (λ id version is same.
    place_short id version is (subst (λ (l : List ℕ). length l < 18) (c.as_bytes-bytes.ensures.value ∙ same) c.if-bytes-lt18.true)))

pub returns-in_default : goal.returns-in_default
returns-in_default c =
    sym (not_named c.args.place.now (λ id version is same.
    none-some id (sym c.in_default.is ∙ c.read.ensures ∙ id_read c.as_bytes-bytes.result.now id version is (c.as_bytes-bytes.ensures.value ∙ same))))

pub returns-in_default-number_in : goal.returns-in_default-number_in
returns-in_default-number_in c =
    sym (not_named c.args.place.now (λ id version is same.
    none-some version (sym c.in_default-number_in.is ∙ c.number_in.ensures version is.small (number_read c.as_bytes-bytes.result.now id version is (c.as_bytes-bytes.ensures.value ∙ same)))))

pub returns-in_default-new : goal.returns-in_default-new
returns-in_default-new c =
    sym (not_named c.args.place.now (λ id version is same.
    let number : c.in-Some-number_in.number ≡ version =
    same_Some c.in-Some-number_in.number version (sym c.in-Some-number_in.is ∙ c.number_in.ensures version is.small (number_read c.as_bytes-bytes.result.now id version is (c.as_bytes-bytes.ensures.value ∙ same))) in
    c.in_default-new.ensures (omega (arith, number, is.some))))

pub returns-then-eq : goal.returns-then-eq
returns-then-eq c =
    let id = c.in-Some.id in
    let version = c.in-Some-new.version in
    let form : is_package_id id ≡ true =
    let t = text_some _ _ id (sym c.read.ensures ∙ c.in-Some.is) in subst (λ (l : List ℕ). is_package_id l ≡ true) t.1 t.0 in
    let new = c.in-Some-new.ensures in
    let some : 1 ≤ version = omega (arith, new.0, new.1) in
    let small : version < 2 ^ 32 = omega arith in
    let same : manifest_place id version ≡ c.args.place.now = sym c.manifest_at.ensures ∙ (bytes_eq-Decides c.manifest_at.result c.args.place.now).0 (sym c.eq.ensures ∙ c.if-eq.true) in
    sym (subst (λ (p : List ℕ). version_named p ≡ Some (id, version)) same (place_named id version (is_version_by id version form some small)))

pub returns-else-eq : goal.returns-else-eq
returns-else-eq c =
    sym (not_named c.args.place.now (λ id version is same.
    let bytes = c.as_bytes-bytes.ensures.value ∙ same in
    let number : c.in-Some-number_in.number ≡ version = same_Some c.in-Some-number_in.number version (sym c.in-Some-number_in.is ∙ c.number_in.ensures version is.small (number_read c.as_bytes-bytes.result.now id version is bytes)) in
    let text : c.in-Some.id ≡ id = same_Some c.in-Some.id id (sym c.in-Some.is ∙ c.read.ensures ∙ id_read c.as_bytes-bytes.result.now id version is bytes) in
    let here : c.manifest_at.result ≡ c.args.place.now =
    c.manifest_at.ensures ∙ ap (λ (i : List ℕ). manifest_place i c.in-Some-new.version) text ∙ ap (λ (n : ℕ). manifest_place id n) (c.in-Some-new.ensures.1 ∙ number) ∙ sym same in
    false≢true (sym c.if-eq.false ∙ c.eq.ensures ∙ (bytes_eq-Decides c.manifest_at.result c.args.place.now).1 here)))
