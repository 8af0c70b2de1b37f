use Rattle.std.proofs.Common.{◌≡◌, ◌≤◌, ◌<◌, ◌∙◌, true, false, length, sym, arith, rules}
use Rattle.std.specs.List.{filter}
use Rattle.ftn_base.specs.Files.{is_source}
use Rattle.ftn_base.specs.Limits.{most_files}
use Rattle.plan_store.proofs.PlanFound.{not_listed}
use Rattle.ftn_tool.proofs.ProjectFiles.{on_ok, told_files, told_many, told_stopped, told_waiting}
use Rattle.ftn_tool.proofs.Rising.{told_in_order}
use Rattle.ftn_tool.proofs.project.project_files.Goals as goal

pub returns-then-is_listed-clause-stopped : goal.returns-then-is_listed-clause-stopped
returns-then-is_listed-clause-stopped g c =
    let listed : c.is_listed.result ≡ true = search rules in
    told_waiting (g.S.Store.files c.args.store.now) c.in-Ok-list.names.items c.in-Ok-list.ensures.names (rw (c.in-Ok.ensures, c.deref.ensures.value) at (sym c.is_listed.ensures ∙ listed))

pub returns-then-count_sources-clause-stopped : goal.returns-then-count_sources-clause-stopped
returns-then-count_sources-clause-stopped g c =
    let unlisted : c.is_listed.result ≡ false = search rules in
    let many : most_files < length (filter is_source c.put_in_order.new.names.items) = rw (← c.deref-2.ensures.value, ← c.count_sources.ensures) (omega arith) in
    told_many (g.S.Store.files c.args.store.now) c.put_in_order.new.names.items (told_in_order _ c.in-Ok-list.names.items c.put_in_order.new.names.items c.in-Ok-list.ensures.names c.put_in_order.ensures.same)
    (not_listed (g.S.Store.files c.args.store.now) c.in-Ok-list.names.items c.in-Ok-list.ensures.names (rw (c.in-Ok.ensures, c.deref.ensures.value) at (sym c.is_listed.ensures ∙ unlisted))) many

pub returns-clause-files : goal.returns-clause-files
returns-clause-files g c =
    let listed = told_in_order _ c.in-Ok-list.names.items c.put_in_order.new.names.items (rw c.in-Ok-list.ensures.same c.in-Ok-list.ensures.names) c.put_in_order.ensures.same in
    rw (← c.in-Ok-list.ensures.same) (told_files _ c.put_in_order.new.names.items c.read_files.result listed (rw c.deref-3.ensures.value at c.read_files.ensures.files))

pub returns-clause-planless : goal.returns-clause-planless
returns-clause-planless g c =
    let unlisted : c.is_listed.result ≡ false = search rules in
    on_ok c.read_files.result (not_listed (g.S.Store.files c.args.store.now) c.in-Ok-list.names.items c.in-Ok-list.ensures.names (rw (c.in-Ok.ensures, c.deref.ensures.value) at (sym c.is_listed.ensures ∙ unlisted)))

pub returns-clause-stopped : goal.returns-clause-stopped
returns-clause-stopped g c =
    let unlisted : c.is_listed.result ≡ false = search rules in
    let few : length (filter is_source c.put_in_order.new.names.items) ≤ most_files = rw (← c.deref-2.ensures.value, ← c.count_sources.ensures) (omega arith) in
    let listed = told_in_order _ c.in-Ok-list.names.items c.put_in_order.new.names.items (rw c.in-Ok-list.ensures.same c.in-Ok-list.ensures.names) c.put_in_order.ensures.same in
    rw (← c.in-Ok-list.ensures.same) (told_stopped _ c.put_in_order.new.names.items c.read_files.result listed
    (rw c.in-Ok-list.ensures.same (not_listed (g.S.Store.files c.args.store.now) c.in-Ok-list.names.items c.in-Ok-list.ensures.names (rw (c.in-Ok.ensures, c.deref.ensures.value) at (sym c.is_listed.ensures ∙ unlisted))))
    few (rw c.deref-3.ensures.value at c.read_files.ensures.past))
