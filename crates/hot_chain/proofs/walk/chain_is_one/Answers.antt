use Rattle.hot_chain.proofs.Chains.{chain-one}
use Rattle.hot_chain.proofs.walk.chain_is_one.Goals as goal

pub returns : goal.returns
returns c = chain-one
