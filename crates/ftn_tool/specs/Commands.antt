-- Commands over the files of a project.
use Rattle.ftn_base.specs.declared.name.Edition.{Edition}
use Rattle.ftn_tool.specs.declared.command.ProjectCommand.{ProjectCommand}
use Rattle.ftn_tool.specs.declared.command.ProjectCommand.TheVariants as commands
use Rattle.ftn_tool.specs.declared.command.Order.{Order}
use Rattle.ftn_tool.specs.declared.command.Order.TheVariants as orders
use Rattle.rename_ref.specs.declared.rename.Rename.{Rename}

-- the edition that the files of the project are read by
abbrev pub edition_of : ProjectCommand → Edition
edition_of (commands.Ask request edition) = edition
edition_of (commands.Apply order edition) = edition

abbrev pub rename_in : Order → Rename
rename_in (orders.Rename rename) = rename
