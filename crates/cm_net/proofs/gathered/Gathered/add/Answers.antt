use Rattle.std.proofs.Common.{ℕ, ◌^◌, arith}
use Rattle.cm_net.specs.declared.address.Address.TheVariants.{V4, V6}
use Rattle.cm_net.specs.declared.boundary.Boundary.{Boundary}
use Rattle.cm_net.specs.Boundaries.{is_four, is_six, is_site}
use Rattle.cm_net.proofs.Added.{rows_of-push}
use Rattle.cm_net.proofs.GatheredRows.{spans_added}
use Rattle.cm_net.proofs.gathered.Gathered.add.Goals as goal

pub returns : goal.returns
returns c = λ rows was.
    let row : Boundary × ℕ = (c.args.boundary.now, c.args.group) in
    record {
      four = spans_added (2 ^ 32) (λ address. V4 address) is_four rows row c.args.self.now.four.items c.add_span.new.spans.items c.ends4.result
          c.ends4.ensures.kind c.ends4.ensures.ends c.in_ok-add_span.ensures.same c.in_ok-add_span.ensures.few was.four;
      six = spans_added (2 ^ 128) (λ address. V6 address) is_six rows row c.args.self.now.six.items c.add_span-2.new.spans.items c.ends6.result
          c.ends6.ensures.kind c.ends6.ensures.ends c.in_ok-add_span-2.ensures.same c.in_ok-add_span-2.ensures.few was.six;
      sites = c.in_ok-add_site.ensures.added rows was.sites;
      few = omega (arith, c.in_ok-add_site.ensures.few, was.few, rows_of-push is_site rows row);
    }
