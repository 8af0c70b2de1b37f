use Rattle.std.proofs.Common.{◌≡◌, ◌∙◌, None, length, map, replicate, ap, refl}
use Rattle.const_value.specs.steps.Links.{name_of, put_all}
use Rattle.const_value.specs.steps.Names.{all_said, number_at}
use Rattle.const_value.specs.steps.Tables.{rows_of}
use Rattle.const_value.proofs.Gathering.{gathered, names_are, names_long, numbers_are, numbers_within}
use Rattle.const_value.proofs.NameLists.{lists_in}
use Rattle.const_value.proofs.project.Project.gather.Goals as goal

pub written_for-requires-clause-count : goal.written_for-requires-clause-count
written_for-requires-clause-count c =
    let files = c.args.files.now in
    let told : lists_in c.deref-2.result.now ≡ all_said files = ap lists_in c.deref-2.ensures.value ∙ c.in_ok-sayings.ensures in
    names_long files c.requires.trees c.args.bound.now c.requires.bound c.in_ok-names.names.all.items
    (names_are files c.requires.trees c.args.bound.now c.requires.bound c.as_slice.result.now (lists_in c.deref-2.result.now) c.in_ok-names.names.all.items c.as_slice.ensures told c.in_ok-names.ensures.all)

pub links_of-requires : goal.links_of-requires
links_of-requires c = λ scope name.
    let files = c.args.files.now in
    let told : lists_in c.deref-2.result.now ≡ all_said files = ap lists_in c.deref-2.ensures.value ∙ c.in_ok-sayings.ensures in
    numbers_within files c.requires.trees c.args.bound.now c.requires.bound (number_at c.in_ok-names.names.numbers.items) c.in_ok-names.names.all.items
    (numbers_are files c.requires.trees c.args.bound.now c.requires.bound (lists_in c.deref-2.result.now) (number_at c.in_ok-names.names.numbers.items) told c.in_ok-names.ensures.numbers)
    (names_are files c.requires.trees c.args.bound.now c.requires.bound c.as_slice.result.now (lists_in c.deref-2.result.now) c.in_ok-names.names.all.items c.as_slice.ensures told c.in_ok-names.ensures.all) scope name

pub returns : goal.returns
returns c =
    let files = c.args.files.now in
    let told : lists_in c.deref-2.result.now ≡ all_said files = ap lists_in c.deref-2.ensures.value ∙ c.in_ok-sayings.ensures in
    gathered files c.requires.trees c.args.bound.now c.requires.bound c.requires.names
    (record { files = c.args.files; bound = c.args.bound; rows = c.in_ok-rows.rows; names = c.in_ok-names.names.all; written = c.in_ok-written.written; links = c.in_ok-links.links })
    (number_at c.in_ok-names.names.numbers.items) refl refl
    (numbers_are files c.requires.trees c.args.bound.now c.requires.bound (lists_in c.deref-2.result.now) (number_at c.in_ok-names.names.numbers.items) told c.in_ok-names.ensures.numbers)
    (names_are files c.requires.trees c.args.bound.now c.requires.bound c.as_slice.result.now (lists_in c.deref-2.result.now) c.in_ok-names.names.all.items c.as_slice.ensures told c.in_ok-names.ensures.all)
    c.in_ok-written.ensures
    (c.in_ok-links.ensures.name_of ∙ ap (map (name_of (number_at c.in_ok-names.names.numbers.items))) c.as_slice-2.ensures)
    (c.in_ok-links.ensures.entity_of ∙ ap (put_all (number_at c.in_ok-names.names.numbers.items) 0 (replicate (length c.in_ok-names.names.all.items) None)) c.as_slice-2.ensures)
    (c.in_ok-rows.ensures ∙ ap (rows_of files) c.as_slice-3.ensures)
