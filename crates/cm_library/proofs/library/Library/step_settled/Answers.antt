use Rattle.std.proofs.Common.{◌≡◌, true, List, ℕ, subst}
use Rattle.std.specs.Prelude.{Option, Some, IfSome}
use Rattle.cm_disk.specs.Disk.{Files, IsNext, is_above}
use Rattle.cm_state.specs.Purged.{is_loose}
use Rattle.cm_library.specs.Purging.{in_store}
use Rattle.cm_library.proofs.Stepping.{step_broken, step_gone, step_alone}
use Rattle.cm_library.proofs.library.Library.step_settled.Goals as goal

pub returns-in-Err-erase_loose-clause-steps : goal.returns-in-Err-erase_loose-clause-steps
returns-in-Err-erase_loose-clause-steps g c =
    let after = c.args.after in
    let next = λ (x : Files) (told : g.D.Disk.reads c.args.self.now.disk ≡ Some x). subst (λ (o : Option (List ℕ)). IsNext (in_store x) after o) c.in-Some.is (c.in-Ok.ensures.least x told) in
    let above = subst (λ (o : Option (List ℕ)). IfSome o (λ at. is_above after at ≡ true)) c.in-Some.is c.in-Ok.ensures.above in
    let loose : true ≡ is_loose c.next_in_store.new.self.state c.in-Some.at = c.if-not-is_loose.ensures in
    step_broken after c.args.self.now c.next_in_store.new.self c.next_in_store.ensures.all c.next_in_store.ensures.only c.in-Some.at next above c.erase_loose.new.self c.erase_loose.ensures.all loose {T = Unit {0}}
    c.in-Err-erase_loose.fault c.in-Err-erase_loose.ensures.refused c.in-Err-erase_loose.ensures.work

pub returns-in-Err-erase_loose-clause-alone : goal.returns-in-Err-erase_loose-clause-alone
returns-in-Err-erase_loose-clause-alone g c =
    let after = c.args.after in
    let next = λ (x : Files) (told : g.D.Disk.reads c.args.self.now.disk ≡ Some x). subst (λ (o : Option (List ℕ)). IsNext (in_store x) after o) c.in-Some.is (c.in-Ok.ensures.least x told) in
    let above = subst (λ (o : Option (List ℕ)). IfSome o (λ at. is_above after at ≡ true)) c.in-Some.is c.in-Ok.ensures.above in
    let loose : true ≡ is_loose c.next_in_store.new.self.state c.in-Some.at = c.if-not-is_loose.ensures in
    step_alone after c.args.self.now c.next_in_store.new.self c.next_in_store.ensures.all c.next_in_store.ensures.only c.in-Some.at next above c.erase_loose.new.self c.erase_loose.ensures.all loose c.erase_loose.ensures.alone

pub returns-clause-steps : goal.returns-clause-steps
returns-clause-steps g c =
    let after = c.args.after in
    let next = λ (x : Files) (told : g.D.Disk.reads c.args.self.now.disk ≡ Some x). subst (λ (o : Option (List ℕ)). IsNext (in_store x) after o) c.in-Some.is (c.in-Ok.ensures.least x told) in
    let above = subst (λ (o : Option (List ℕ)). IfSome o (λ at. is_above after at ≡ true)) c.in-Some.is c.in-Ok.ensures.above in
    let loose : true ≡ is_loose c.next_in_store.new.self.state c.in-Some.at = c.if-not-is_loose.ensures in
    step_gone after c.args.self.now c.next_in_store.new.self c.next_in_store.ensures.all c.next_in_store.ensures.only c.in-Some.at next above c.erase_loose.new.self c.erase_loose.ensures.all loose {T = Unit {0}}
    c.in-Ok-erase_loose.field-0 c.in-Ok-erase_loose.ensures.work c.in-Ok-erase_loose.ensures.durable

pub returns-clause-alone : goal.returns-clause-alone
returns-clause-alone g c =
    let after = c.args.after in
    let next = λ (x : Files) (told : g.D.Disk.reads c.args.self.now.disk ≡ Some x). subst (λ (o : Option (List ℕ)). IsNext (in_store x) after o) c.in-Some.is (c.in-Ok.ensures.least x told) in
    let above = subst (λ (o : Option (List ℕ)). IfSome o (λ at. is_above after at ≡ true)) c.in-Some.is c.in-Ok.ensures.above in
    let loose : true ≡ is_loose c.next_in_store.new.self.state c.in-Some.at = c.if-not-is_loose.ensures in
    step_alone after c.args.self.now c.next_in_store.new.self c.next_in_store.ensures.all c.next_in_store.ensures.only c.in-Some.at next above c.erase_loose.new.self c.erase_loose.ensures.all loose c.erase_loose.ensures.alone
