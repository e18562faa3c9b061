use Rattle.lb_names.proofs.Computed as computed
use Rattle.lb_names.proofs.laws.worked_names.Goals as goal

pub returns-clause-on_before_its_table : goal.returns-clause-on_before_its_table
returns-clause-on_before_its_table c = computed.on_before_its_table

pub returns-clause-column_before_targets : goal.returns-clause-column_before_targets
returns-clause-column_before_targets c = computed.column_before_targets

pub returns-clause-target_twice : goal.returns-clause-target_twice
returns-clause-target_twice c = computed.target_twice

pub returns-clause-no_label_text : goal.returns-clause-no_label_text
returns-clause-no_label_text c = computed.no_label_text

pub returns-clause-policy_before_text : goal.returns-clause-policy_before_text
returns-clause-policy_before_text c = computed.policy_before_text

pub returns-clause-column_of_where : goal.returns-clause-column_of_where
returns-clause-column_of_where c = computed.column_of_where

pub returns-clause-target_by_its_alias : goal.returns-clause-target_by_its_alias
returns-clause-target_by_its_alias c = computed.target_by_its_alias

pub returns-clause-output_name_inside : goal.returns-clause-output_name_inside
returns-clause-output_name_inside c = computed.output_name_inside

pub returns-clause-enclosing_name_reused : goal.returns-clause-enclosing_name_reused
returns-clause-enclosing_name_reused c = computed.enclosing_name_reused

pub returns-clause-star_beside_group : goal.returns-clause-star_beside_group
returns-clause-star_beside_group c = computed.star_beside_group

pub returns-clause-sum_in_where : goal.returns-clause-sum_in_where
returns-clause-sum_in_where c = computed.sum_in_where

pub returns-clause-star_in_sum : goal.returns-clause-star_in_sum
returns-clause-star_in_sum c = computed.star_in_sum

pub returns-clause-sum_in_on : goal.returns-clause-sum_in_on
returns-clause-sum_in_on c = computed.sum_in_on

pub returns-clause-subquery_in_items : goal.returns-clause-subquery_in_items
returns-clause-subquery_in_items c = computed.subquery_in_items

pub returns-clause-group_of_outer_column : goal.returns-clause-group_of_outer_column
returns-clause-group_of_outer_column c = computed.group_of_outer_column

pub returns-clause-too_many_values : goal.returns-clause-too_many_values
returns-clause-too_many_values c = computed.too_many_values

pub returns-clause-stored_star : goal.returns-clause-stored_star
returns-clause-stored_star c = computed.stored_star

pub returns-clause-stored_star_beside_group : goal.returns-clause-stored_star_beside_group
returns-clause-stored_star_beside_group c = computed.stored_star_beside_group

pub returns-clause-count_in_mask : goal.returns-clause-count_in_mask
returns-clause-count_in_mask c = computed.count_in_mask

pub returns-clause-qualified : goal.returns-clause-qualified
returns-clause-qualified c = computed.qualified

pub returns-clause-too_many_outputs : goal.returns-clause-too_many_outputs
returns-clause-too_many_outputs c = computed.too_many_outputs

pub returns-clause-by_a_label : goal.returns-clause-by_a_label
returns-clause-by_a_label c = computed.by_a_label

pub returns-clause-by_another_column : goal.returns-clause-by_another_column
returns-clause-by_another_column c = computed.by_another_column
