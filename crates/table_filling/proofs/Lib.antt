-- How `fill_facts` answers.
pub mod Fillings
