pub mod LayerRepair
