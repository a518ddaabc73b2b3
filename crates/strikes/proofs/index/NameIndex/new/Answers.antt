-- `strikes::NameIndex::new` chains the places in buffers of zeros. Assumes nothing.
use Rattle.strikes.proofs.Names.{names-asked}
use Rattle.strikes.proofs.index.NameIndex.new.Goals as goal

pub index_names-requires : goal.index_names-requires
index_names-requires c = names-asked c.requires.0 c.requires.1
