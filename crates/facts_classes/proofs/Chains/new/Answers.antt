-- `facts_classes::Chains::new` meets its contract. Assumes nothing.
use Rattle.facts_classes.proofs.Linking.{chain_none}
use Rattle.facts_classes.proofs.Chains.new.Goals as goal

pub returns : goal.returns
returns c = chain_none
