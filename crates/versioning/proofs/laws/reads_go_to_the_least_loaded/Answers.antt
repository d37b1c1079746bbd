use Rattle.versioning.proofs.Chosen.{always_reads_least_loaded}
use Rattle.versioning.proofs.laws.reads_go_to_the_least_loaded.Goals as goal

pub returns : goal.returns
returns c = always_reads_least_loaded
