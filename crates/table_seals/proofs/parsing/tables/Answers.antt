use Rattle.std.proofs.Common.{◌++◌, map}
use Rattle.std.specs.List.{flat_map}
use Rattle.table_seals.specs.Sealed.{line_bytes, sealed_of, sealed_polls_of}
use Rattle.table_seals.specs.Texts.{meter_text, polls_part}
use Rattle.table_seals.proofs.Following.{none_some, some_and}
use Rattle.table_seals.proofs.FollowingPolls.{setup_first, meters_then, polls_then, same_tables}
use Rattle.table_seals.proofs.parsing.tables.Goals as goal

pub returns-in-None : goal.returns-in-None
returns-in-None c =
    λ seal rest is.
    let one = c.in_ok-setup.ensures.reads seal.setup (flat_map meter_text seal.meters ++ (polls_part seal.polls ++ rest)) (setup_first seal rest c.args.text.now is) in
    let two = c.in_ok-meters.ensures.reads seal.meters (polls_part seal.polls ++ rest) (meters_then seal rest c.args.text.now _ is one.1) in
    none_some _ c.in_ok-polls.field-0 c.in-None.is (c.in_ok-polls.ensures seal.polls rest (polls_then seal rest c.args.text.now _ is two.1))

pub returns : goal.returns
returns c =
    λ seal rest is.
    let one = c.in_ok-setup.ensures.reads seal.setup (flat_map meter_text seal.meters ++ (polls_part seal.polls ++ rest)) (setup_first seal rest c.args.text.now is) in
    let two = c.in_ok-meters.ensures.reads seal.meters (polls_part seal.polls ++ rest) (meters_then seal rest c.args.text.now _ is one.1) in
    let three = some_and _ c.in_ok-polls.field-0 c.in-Some.polls c.in-Some.is (c.in_ok-polls.ensures seal.polls rest (polls_then seal rest c.args.text.now _ is two.1)) in
    same_tables (map line_bytes c.in_ok-setup.setup.items) (map sealed_of c.in_ok-meters.meters.items) (sealed_polls_of c.in-Some.polls) seal one.0 two.0 three
