use Rattle.joining.proofs.Ringing.{put_rings, put_whole}
use Rattle.joining.proofs.rings.put.Goals as goal

pub returns : goal.returns
returns c = record {
  rings = put_rings c.args.links.now c.args.ring.now c.requires.forest c.args.x c.end_of-end.result c.end_of-end.ensures.found c.requires.within.1.0 c.requires.rings;
  whole = put_whole c.args.links.now c.args.ring.now c.requires.forest c.args.x c.end_of-end.result c.end_of-end.ensures.found c.requires.within.1.0 c.requires.rings;
}
