use Rattle.fixed_walk.proofs.KeptLaws.{insert-keeps, insert_new-keeps, update_counter-keeps, update_element-keeps, delete-keeps, delete_object-keeps, fix-keeps, release-keeps, release_all-keeps, rows-keep}
use Rattle.fixed_walk.proofs.laws.calls_keep_keys.Goals as goal

pub returns-clause-insert : goal.returns-clause-insert
returns-clause-insert c = insert-keeps

pub returns-clause-insert_new : goal.returns-clause-insert_new
returns-clause-insert_new c = insert_new-keeps

pub returns-clause-delete : goal.returns-clause-delete
returns-clause-delete c = delete-keeps

pub returns-clause-delete_object : goal.returns-clause-delete_object
returns-clause-delete_object c = delete_object-keeps

pub returns-clause-fix : goal.returns-clause-fix
returns-clause-fix c = fix-keeps

pub returns-clause-release : goal.returns-clause-release
returns-clause-release c = release-keeps

pub returns-clause-release_all : goal.returns-clause-release_all
returns-clause-release_all c = release_all-keeps

pub returns-clause-rows : goal.returns-clause-rows
returns-clause-rows c = rows-keep

pub returns-clause-update_counter : goal.returns-clause-update_counter
returns-clause-update_counter c = update_counter-keeps

pub returns-clause-update_element : goal.returns-clause-update_element
returns-clause-update_element c = update_element-keeps
