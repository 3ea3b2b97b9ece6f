-- The name alone is what the tables show, with its place as the own name's.
use Rattle.std.proofs.Common.{ap, ◌∙◌, rules}
use Rattle.model.specs.Layout.{encode}
use Rattle.edit.proofs.Alone.{alone_meaning, alone_storable}
use Rattle.edit.proofs.operations.write_name.Goals as goal

pub store-requires : goal.store-requires
store-requires c =
    let put = rw c.new-tables.ensures at c.put_name-own.ensures in
    (search rules, (alone_storable c.args.name.now _ _ put c.requires.0, c.requires.1))

pub returns : goal.returns
returns c =
    let put = rw c.new-tables.ensures at c.put_name-own.ensures in
    c.store.ensures ∙ ap encode (alone_meaning c.args.name.now _ _ put)
