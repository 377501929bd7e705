use Rattle.type_rows.specs.Patches.{places_in}
use Rattle.type_rows.proofs.PlaceReasons.{fails_in, readable_added}
use Rattle.type_rows.proofs.PlacesUpTo.{tells_place}
use Rattle.type_rows.proofs.patch.PatchSection.row_at.Goals as goal

pub read_place-requires : goal.read_place-requires
read_place-requires c = readable_added c.args.schema.now.shape c.args.self.now c.args.place c.requires.readable c.requires.rising c.requires.placed c.requires.place

pub returns-clause-tells : goal.returns-clause-tells
returns-clause-tells c = tells_place c.args.schema.now.shape (places_in c.args.self.now) c.args.place c.read_place.result c.read_place.ensures.tells

pub returns-clause-reason : goal.returns-clause-reason
returns-clause-reason c = fails_in c.args.schema.now.shape (places_in c.args.self.now) c.args.place c.read_place.result c.read_place.ensures.reason
