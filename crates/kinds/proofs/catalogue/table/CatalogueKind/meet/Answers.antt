use Rattle.kinds.proofs.Meets.{meet_table}
use Rattle.kinds.proofs.catalogue.table.CatalogueKind.meet.Goals as goal

pub look_up-requires : goal.look_up-requires
look_up-requires c = meet_table _ tt
