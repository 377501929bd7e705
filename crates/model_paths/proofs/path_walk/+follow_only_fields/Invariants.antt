use Rattle.model_paths.proofs.path_walk.+follow_only_fields.Given as goal

abbrev pub decreases-follow_only_fields : goal.decreases-follow_only_fields
decreases-follow_only_fields l = l.depth
