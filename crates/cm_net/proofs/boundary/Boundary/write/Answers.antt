use Rattle.cm_net.specs.declared.address.Address.TheVariants.{V4, V6}
use Rattle.cm_net.proofs.Rewritten.{subnet_reads, prefix_reads, site_reads, range_reads, sound_judged}
use Rattle.cm_net.proofs.boundary.Boundary.write.Goals as goal

pub returns-in-Subnet-clause-reads : goal.returns-in-Subnet-clause-reads
returns-in-Subnet-clause-reads c = rw (c.write_net.ensures.items, c.in-Subnet.is) (subnet_reads c.in-Subnet.net c.in-Subnet.bits (rw c.in-Subnet.is at c.requires) c.write_net.ensures.spelled)

pub returns-in-Site-clause-reads : goal.returns-in-Site-clause-reads
returns-in-Site-clause-reads c = rw (c.write_site.ensures, c.named.ensures.value, c.in-Site.is) (site_reads c.in-Site.name c.named.ensures.spelled)

pub returns-in-Prefix6-clause-reads : goal.returns-in-Prefix6-clause-reads
returns-in-Prefix6-clause-reads c = rw (c.write_net-in-Prefix6.ensures.items, c.in-Prefix6.is) (prefix_reads c.in-Prefix6.net c.in-Prefix6.bits (rw c.in-Prefix6.is at c.requires) c.write_net-in-Prefix6.ensures.spelled)

pub returns-in-Range4-clause-reads : goal.returns-in-Range4-clause-reads
returns-in-Range4-clause-reads c = rw (c.write_range.ensures.items, c.in-Range4.is) (range_reads (V4 c.in-Range4.from) (V4 c.in-Range4.to) c.write_range.ensures.from c.write_range.ensures.to)

pub returns-in-Range6-clause-reads : goal.returns-in-Range6-clause-reads
returns-in-Range6-clause-reads c = rw (c.write_range-in-Range6.ensures.items, c.in-Range6.is) (range_reads (V6 c.in-Range6.from) (V6 c.in-Range6.to) c.write_range-in-Range6.ensures.from c.write_range-in-Range6.ensures.to)

pub returns-in-Subnet-clause-same : goal.returns-in-Subnet-clause-same
returns-in-Subnet-clause-same c = sound_judged _ c.requires

pub returns-in-Site-clause-same : goal.returns-in-Site-clause-same
returns-in-Site-clause-same c = sound_judged _ c.requires

pub returns-in-Prefix6-clause-same : goal.returns-in-Prefix6-clause-same
returns-in-Prefix6-clause-same c = sound_judged _ c.requires

pub returns-in-Range4-clause-same : goal.returns-in-Range4-clause-same
returns-in-Range4-clause-same c = sound_judged _ c.requires

pub returns-in-Range6-clause-same : goal.returns-in-Range6-clause-same
returns-in-Range6-clause-same c = sound_judged _ c.requires
