use Rattle.std.proofs.Common.{ap}
use Rattle.cluster.specs.Transactions.{transaction_of}
use Rattle.cluster.specs.View.{number_of}
use Rattle.cluster.proofs.Reading.{unfit, first_fit, lighter}
use Rattle.cluster.proofs.cluster.Cluster.better.Goals as goal

pub returns-then-not-qualifies : goal.returns-then-not-qualifies
returns-then-not-qualifies g c =
    unfit g.R.Replicas.catalogues c.args.self.now (transaction_of c.args.transaction.now) c.args.table.number c.args.replica.number c.requires (number_of c.args.best) c.if-not-qualifies.ensures

pub returns-in_default : goal.returns-in_default
returns-in_default g c =
    lighter g.R.Replicas.catalogues c.args.self.now (transaction_of c.args.transaction.now) c.args.table.number c.args.replica.number c.requires c.if-not-qualifies.ensures (number_of c.args.best) c.in-Some.chosen.number (ap number_of c.in-Some.is) c.if-not-is_lighter.ensures

pub returns-in_default-2 : goal.returns-in_default-2
returns-in_default-2 g c =
    first_fit g.R.Replicas.catalogues c.args.self.now (transaction_of c.args.transaction.now) c.args.table.number c.args.replica.number c.requires c.if-not-qualifies.ensures (number_of c.args.best) (ap number_of c.in_default.is)
