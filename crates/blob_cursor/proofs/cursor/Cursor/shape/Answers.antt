use Rattle.std.proofs.Common.{rules}
use Rattle.blob_frame.specs.SchemaForm.{shape_of}
use Rattle.blob_cursor.proofs.Chain.{reads_made, reads_unmade}
use Rattle.blob_cursor.proofs.cursor.Cursor.shape.Goals as goal

pub returns-in_err-fields-in-Object : goal.returns-in_err-fields-in-Object
unfolding shape_of
returns-in_err-fields-in-Object g c = record { reads = rw c.in-Object.is (reads_unmade _ c.in_err-fields-in-Object.ensures.reads (search rules)) }

pub returns-in_ok-fields-in-Object : goal.returns-in_ok-fields-in-Object
unfolding shape_of
returns-in_ok-fields-in-Object g c = record { reads = rw c.in-Object.is (reads_made _ c.in_ok-fields-in-Object.ensures.reads (search rules)) }

pub returns-in_err-paths-in-KeyedObject : goal.returns-in_err-paths-in-KeyedObject
unfolding shape_of
returns-in_err-paths-in-KeyedObject g c = record { reads = rw c.in-KeyedObject.is (reads_unmade _ c.in_err-paths-in-KeyedObject.ensures.reads (search rules)) }

pub returns-in_ok-paths-in-KeyedObject : goal.returns-in_ok-paths-in-KeyedObject
unfolding shape_of
returns-in_ok-paths-in-KeyedObject g c = record { reads = rw c.in-KeyedObject.is (reads_made _ c.in_ok-paths-in-KeyedObject.ensures.reads (search rules)) }

pub returns-in_err-element-in-Set : goal.returns-in_err-element-in-Set
unfolding shape_of
returns-in_err-element-in-Set g c = record { reads = rw c.in-Set.is (reads_unmade _ c.in_err-element-in-Set.ensures.reads (search rules)) }

pub returns-in_ok-element-in-Set : goal.returns-in_ok-element-in-Set
unfolding shape_of
returns-in_ok-element-in-Set g c = record { reads = rw c.in-Set.is (reads_made _ c.in_ok-element-in-Set.ensures.reads (search rules)) }

pub returns-in_err-element-in-List : goal.returns-in_err-element-in-List
unfolding shape_of
returns-in_err-element-in-List g c = record { reads = rw c.in-List.is (reads_unmade _ c.in_err-element-in-List.ensures.reads (search rules)) }

pub returns-in_ok-element-in-List : goal.returns-in_ok-element-in-List
unfolding shape_of
returns-in_ok-element-in-List g c = record { reads = rw c.in-List.is (reads_made _ c.in_ok-element-in-List.ensures.reads (search rules)) }

pub returns-in_err-key-in-Map : goal.returns-in_err-key-in-Map
unfolding shape_of
returns-in_err-key-in-Map g c = record { reads = rw c.in-Map.is (reads_unmade _ c.in_err-key-in-Map.ensures.reads (search rules)) }

pub returns-in_ok-key-in-Map : goal.returns-in_ok-key-in-Map
unfolding shape_of
returns-in_ok-key-in-Map g c = record { reads = rw c.in-Map.is (reads_made _ c.in_ok-key-in-Map.ensures.reads (search rules)) }
